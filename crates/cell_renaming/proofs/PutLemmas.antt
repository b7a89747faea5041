-- What is put in a world and in the renamed one.
use Rattle.std.proofs.Common.{◌≡◌, ℕ, List, [], ◌∷◌, true, Option, Some, refl, sym, ap, ◌∙◌, subst}
use Rattle.foundation.proofs.Options.{same_some}
use Rattle.arm_value.specs.Json.{Json, bool}
use Rattle.arm_ids.specs.declared.id.Place.{Place}
use Rattle.arm_ids.specs.declared.id.ResourceId.{ResourceId}
use Rattle.deploy_cells.specs.Cells.{Step, step, Position, World, included, name, state}
use Rattle.deploy_cells.specs.Puts.{Kind, Desired, IsDesired, IsIncluded, IsPut, IsNested, IsPutAt}
use Rattle.deploy_cells.specs.Puts.{HaveBodies, ResourcesDiffer, DeploymentsDiffer, OthersAreHeld}
use Rattle.deploy_cells.specs.Puts.{body_in, key_at, id_at}
use Rattle.cell_renaming.specs.Renaming.{Renaming, IsOneToOne, to_position, from_position, resource_at}
use Rattle.cell_renaming.specs.Renaming.{to_cell, from_cell, renamed, unrenamed, IsRenamable}
use Rattle.cell_renaming.specs.Renamed.{IsRenamed, IsEither, as_it_is, as_renamed, Stored, stored_by, IsStored}
use Rattle.cell_renaming.proofs.OptionLemmas.{Either, there, nowhere, either, none_some, of_both, to_both, of_then}
use Rattle.cell_renaming.proofs.CellLemmas.{from-to_position, to-from_position, resource_known}
use Rattle.cell_renaming.proofs.ParentLemmas.{renamed_is}
use Rattle.cell_renaming.proofs.WorldLemmas.{everywhere, renamable, world_forth, world_back, is_renaming}
use Rattle.cell_renaming.proofs.WorldLemmas.{unrenamed_renamable}

-- the first of a list
abbrev first_of : {A : Type 0} → A → List A → A
first_of x [] = x
first_of x (y ∷ ys) = y

module _ (r : Renaming) (i : IsOneToOne r) where
  -- an instance and the new one
  record Pair (p : Position) (s : Step) (q : Position) (u : Step) : Type 0 where
    at : to_position r p ≡ Some q
    number : r.number p s.resource ≡ Some u.resource
    copy : s.copy ≡ u.copy

  pair_to : (p q : Position) (s u : Step) → Pair p s q u → to_position r (s ∷ p) ≡ Some (u ∷ q)
  pair_to p q s u h =
      to_both (to_position r p) (r.number p s.resource) (λ q m. step m s.copy ∷ q) q u.resource h.at h.number
      ∙ ap (λ c. Some (step u.resource c ∷ q)) h.copy

  included_to : (p q : Position) (s u : Step) → Pair p s q u → to_cell r (included p s) ≡ Some (included q u)
  included_to p q s u h =
      to_both (to_position r p) (r.number p s.resource) (λ q m. included q (step m s.copy)) q u.resource h.at h.number
      ∙ ap (λ c. Some (included q (step u.resource c))) h.copy

  name_to : (p q : Position) (s u : Step) → Pair p s q u → to_cell r (name p s) ≡ Some (name q u)
  name_to p q s u h =
      to_both (to_position r p) (r.number p s.resource) (λ q m. name q (step m s.copy)) q u.resource h.at h.number
      ∙ ap (λ c. Some (name q (step u.resource c))) h.copy

  -- the new instance of one whose cells have new ones
  record New (p : Position) (s : Step) : Type 0 where
    at : Position
    instance : Step
    pair : Pair p s at instance

  new_by : (w : World) → IsRenamable r w → (p : Position) (s : Step) (j : Json) → w (included p s) ≡ Some j
      → Either (to_cell r (included p s)) → New p s
  new_by w n p s j h (there d e) =
      let g = of_both (to_position r p) (r.number p s.resource) (λ q m. included q (step m s.copy)) d e in
      record {
        at = g.left;
        instance = step g.right s.copy;
        pair = record { at = g.first; number = g.second; copy = refl };
      }
  new_by w n p s j h (nowhere e) = none_some j (sym (n (included p s) e) ∙ h)

  new : (w : World) → IsRenamable r w → (p : Position) (s : Step) (j : Json) → w (included p s) ≡ Some j → New p s
  new w n p s j h = new_by w n p s j h (either (to_cell r (included p s)))

  -- the instance of a new one
  record Old (q : Position) (u : Step) : Type 0 where
    at : Position
    instance : Step
    pair : Pair at instance q u

  old : (w : World) (q : Position) (u : Step) (j : Json) → renamed r w (included q u) ≡ Some j → Old q u
  old w q u j h =
      let c = of_then (from_cell r (included q u)) w j h in
      let g = of_both (from_position r q) (resource_at r q u.resource) (λ p n. included p (step n u.copy)) c.left
      c.first in
      record {
        at = g.left;
        instance = step g.right u.copy;
        pair = record {
          at = from-to_position r i q g.left g.first;
          number =
              i.back g.left u.resource g.right
              (sym (resource_known r i (from_position r q) g.left u.resource g.first) ∙ g.second);
          copy = refl;
        };
      }

  module _ (s t : Desired) (h : IsRenamed r s t) (w : World) (n : IsRenamable r w) where
    -- the new instance is included where the instance is, and as the same
    included_forth : (p q : Position) (a u : Step) (k : Kind) (x : List ℕ) → Pair p a q u
        → IsIncluded s.kinds w p a k x → IsIncluded t.kinds (renamed r w) q u k x
    included_forth p q a u k x g c = record {
      is_declared = h.kinds p q a.resource u.resource g.at g.number ∙ c.is_declared;
      has_condition = renamed_is r i w (included p a) (included q u) (included_to p q a u g) ∙ c.has_condition;
      has_name = renamed_is r i w (name p a) (name q u) (name_to p q a u g) ∙ c.has_name;
    }

    included_back : (p q : Position) (a u : Step) (k : Kind) (x : List ℕ) → Pair p a q u
        → IsIncluded t.kinds (renamed r w) q u k x → IsIncluded s.kinds w p a k x
    included_back p q a u k x g c = record {
      is_declared = sym (h.kinds p q a.resource u.resource g.at g.number) ∙ c.is_declared;
      has_condition = sym (renamed_is r i w (included p a) (included q u) (included_to p q a u g)) ∙ c.has_condition;
      has_name = sym (renamed_is r i w (name p a) (name q u) (name_to p q a u g)) ∙ c.has_name;
    }

    put_forth : (p q : Position) (a u : Step) (k : Kind) (x : List ℕ) → Pair p a q u
        → IsPut s.kinds w p a k x → IsPut t.kinds (renamed r w) q u k x
    put_forth p q a u k x g c =
        record { is_included = included_forth p q a u k x g c.is_included; is_resource = c.is_resource }

    put_back : (p q : Position) (a u : Step) (k : Kind) (x : List ℕ) → Pair p a q u
        → IsPut t.kinds (renamed r w) q u k x → IsPut s.kinds w p a k x
    put_back p q a u k x g c =
        record { is_included = included_back p q a u k x g c.is_included; is_resource = c.is_resource }

    nested_forth : (p q : Position) (a u : Step) (k : Kind) (x : List ℕ) → Pair p a q u
        → IsNested s.kinds w p a k x → IsNested t.kinds (renamed r w) q u k x
    nested_forth p q a u k x g c =
        record { is_included = included_forth p q a u k x g c.is_included; is_deployment = c.is_deployment }

    nested_back : (p q : Position) (a u : Step) (k : Kind) (x : List ℕ) → Pair p a q u
        → IsNested t.kinds (renamed r w) q u k x → IsNested s.kinds w p a k x
    nested_back p q a u k x g c =
        record { is_included = included_back p q a u k x g c.is_included; is_deployment = c.is_deployment }

    -- of what is put: its new instance, and the instance of a new one
    put_new : (p : Position) (a : Step) (k : Kind) (x : List ℕ) → IsPut s.kinds w p a k x → New p a
    put_new p a k x c = new w n p a (bool true) c.is_included.has_condition

    put_old : (q : Position) (u : Step) (k : Kind) (x : List ℕ) → IsPut t.kinds (renamed r w) q u k x → Old q u
    put_old q u k x c = old w q u (bool true) c.is_included.has_condition

    -- ---- bodies

    body_same : IsEither r s t w → (p q : Position) (a u : Step) (k : Kind) (x : List ℕ) → Pair p a q u
        → IsPut s.kinds w p a k x → body_in (renamed r w) (t.bodies q u) ≡ body_in w (s.bodies p a)
    body_same v p q a u k x g e =
        ap (λ c. body_in (renamed r w) (t.bodies q (step u.resource c))) (sym g.copy)
        ∙ h.bodies w n v p q a.resource u.resource a.copy k g.at g.number e.is_included.is_declared e.is_resource
        e.is_included.has_condition

    bodies_forth : IsEither r s t w → HaveBodies s.kinds s.bodies w → HaveBodies t.kinds t.bodies (renamed r w)
    bodies_forth v b q u k x c =
        let o = put_old q u k x c in
        let e = put_back o.at q o.instance u k x o.pair c in
        let g = b o.at o.instance k x e in
        (g.0, body_same v o.at q o.instance u k x o.pair e ∙ g.1)

    bodies_back : IsEither r s t w → HaveBodies t.kinds t.bodies (renamed r w) → HaveBodies s.kinds s.bodies w
    bodies_back v b p a k x c =
        let o = put_new p a k x c in
        let g = b o.at o.instance k x (put_forth p o.at a o.instance k x o.pair c) in
        (g.0, sym (body_same v p o.at a o.instance k x o.pair c) ∙ g.1)

    -- ---- keys

    module _ (place : Place) where
      resources_forth : ResourcesDiffer place s.kinds w → ResourcesDiffer place t.kinds (renamed r w)
      resources_forth d q q2 u u2 k k2 x x2 c c2 e =
          let o = put_old q u k x c in
          let o2 = put_old q2 u2 k2 x2 c2 in
          let g = d o.at o2.at o.instance o2.instance k k2 x x2 (put_back o.at q o.instance u k x o.pair c)
          (put_back o2.at q2 o2.instance u2 k2 x2 o2.pair c2) e in
          same_some
          (sym (pair_to o.at q o.instance u o.pair) ∙ ap (to_position r) g ∙ pair_to o2.at q2 o2.instance u2 o2.pair)

      resources_back : ResourcesDiffer place t.kinds (renamed r w) → ResourcesDiffer place s.kinds w
      resources_back d p p2 a a2 k k2 x x2 c c2 e =
          let o = put_new p a k x c in
          let o2 = put_new p2 a2 k2 x2 c2 in
          let g = d o.at o2.at o.instance o2.instance k k2 x x2 (put_forth p o.at a o.instance k x o.pair c)
          (put_forth p2 o2.at a2 o2.instance k2 x2 o2.pair c2) e in
          same_some
          (sym (to-from_position r i (a ∷ p) (o.instance ∷ o.at) (pair_to p o.at a o.instance o.pair))
          ∙ ap (from_position r) g
          ∙ to-from_position r i (a2 ∷ p2) (o2.instance ∷ o2.at) (pair_to p2 o2.at a2 o2.instance o2.pair))

      -- in one scope
      steps_old : (q p p2 : Position) (u u2 a a2 : Step) → Pair p a q u → Pair p2 a2 q u2
          → (p ≡ p2 → a ≡ a2) → u ≡ u2
      steps_old q p p2 u u2 a a2 g g2 f =
          let e : p ≡ p2 = same_some (sym (to-from_position r i p q g.at) ∙ to-from_position r i p2 q g2.at) in
          ap (first_of u)
          (same_some
          (sym (pair_to p q a u g) ∙ ap (λ p. to_position r (a ∷ p)) e ∙ ap (λ a. to_position r (a ∷ p2)) (f e)
          ∙ pair_to p2 q a2 u2 g2))

      steps_new : (p q q2 : Position) (a a2 u u2 : Step) → Pair p a q u → Pair p a2 q2 u2
          → (q ≡ q2 → u ≡ u2) → a ≡ a2
      steps_new p q q2 a a2 u u2 g g2 f =
          let e : q ≡ q2 = same_some (sym g.at ∙ g2.at) in
          ap (first_of a)
          (same_some
          (sym (to-from_position r i (a ∷ p) (u ∷ q) (pair_to p q a u g)) ∙ ap (λ q. from_position r (u ∷ q)) e
          ∙ ap (λ u. from_position r (u ∷ q2)) (f e)
          ∙ to-from_position r i (a2 ∷ p) (u2 ∷ q2) (pair_to p q2 a2 u2 g2)))

      deployments_forth : DeploymentsDiffer place s.kinds w → DeploymentsDiffer place t.kinds (renamed r w)
      deployments_forth d q u u2 k k2 x x2 c c2 e =
          let o = old w q u (bool true) c.is_included.has_condition in
          let o2 = old w q u2 (bool true) c2.is_included.has_condition in
          let b2 = nested_back o2.at q o2.instance u2 k2 x2 o2.pair c2 in
          steps_old q o.at o2.at u u2 o.instance o2.instance o.pair o2.pair
          (λ g. d o.at o.instance o2.instance k k2 x x2 (nested_back o.at q o.instance u k x o.pair c)
          (subst (λ p. IsNested s.kinds w p o2.instance k2 x2) (sym g) b2) e)

      deployments_back : DeploymentsDiffer place t.kinds (renamed r w) → DeploymentsDiffer place s.kinds w
      deployments_back d p a a2 k k2 x x2 c c2 e =
          let o = new w n p a (bool true) c.is_included.has_condition in
          let o2 = new w n p a2 (bool true) c2.is_included.has_condition in
          let b2 = nested_forth p o2.at a2 o2.instance k2 x2 o2.pair c2 in
          steps_new p o.at o2.at a a2 o.instance o2.instance o.pair o2.pair
          (λ g. d o.at o.instance o2.instance k k2 x x2 (nested_forth p o.at a o.instance k x o.pair c)
          (subst (λ q. IsNested t.kinds (renamed r w) q o2.instance k2 x2) (sym g) b2) e)

      -- ---- what is held

      put_at_forth : (key : ResourceId) → IsPutAt place s.kinds w key → IsPutAt place t.kinds (renamed r w) key
      put_at_forth key c =
          let o = put_new c.at c.instance c.kind c.title c.is_put in
          record {
            at = o.at;
            instance = o.instance;
            kind = c.kind;
            title = c.title;
            is_put = put_forth c.at o.at c.instance o.instance c.kind c.title o.pair c.is_put;
            has_key = c.has_key;
          }

      put_at_back : (key : ResourceId) → IsPutAt place t.kinds (renamed r w) key → IsPutAt place s.kinds w key
      put_at_back key c =
          let o = put_old c.at c.instance c.kind c.title c.is_put in
          record {
            at = o.at;
            instance = o.instance;
            kind = c.kind;
            title = c.title;
            is_put = put_back o.at c.at o.instance c.instance c.kind c.title o.pair c.is_put;
            has_key = c.has_key;
          }

      held_forth : OthersAreHeld s.held place s.kinds w → OthersAreHeld t.held place t.kinds (renamed r w)
      held_forth d key c = d key (λ g. c (put_at_forth key g)) ∙ sym (h.held key)

      held_back : OthersAreHeld t.held place t.kinds (renamed r w) → OthersAreHeld s.held place s.kinds w
      held_back d key c = d key (λ g. c (put_at_back key g)) ∙ h.held key

    -- ---- desired worlds

    pub forth : IsDesired s w → IsDesired t (renamed r w)
    forth d = record {
      is_world = world_forth r i s t h w n (as_it_is d) d.is_world;
      have_bodies = bodies_forth (as_it_is d) d.have_bodies;
      resources_differ =
          subst (λ p. ResourcesDiffer p t.kinds (renamed r w)) (sym h.place)
          (resources_forth s.place d.resources_differ);
      deployments_differ =
          subst (λ p. DeploymentsDiffer p t.kinds (renamed r w)) (sym h.place)
          (deployments_forth s.place d.deployments_differ);
      others_are_held =
          subst (λ p. OthersAreHeld t.held p t.kinds (renamed r w)) (sym h.place)
          (held_forth s.place d.others_are_held);
    }

    pub back : IsDesired t (renamed r w) → IsDesired s w
    back d = record {
      is_world = world_back r i s t h w n (as_renamed d) d.is_world;
      have_bodies = bodies_back (as_renamed d) d.have_bodies;
      resources_differ =
          subst (λ p. ResourcesDiffer p s.kinds w) h.place (resources_back t.place d.resources_differ);
      deployments_differ =
          subst (λ p. DeploymentsDiffer p s.kinds w) h.place (deployments_back t.place d.deployments_differ);
      others_are_held = subst (λ p. OthersAreHeld s.held p s.kinds w) h.place (held_back t.place d.others_are_held);
    }

    -- ---- what is put

    abbrev at_place : Kind → List ℕ → Option Json → Place → Stored
    at_place k x b p = record { id = id_at p k.type x; api = k.api; body = b; state = w (state (key_at p k.type x)) }

    stored_same : IsDesired s w → (p q : Position) (a u : Step) (k : Kind) (x : List ℕ) → Pair p a q u
        → IsPut s.kinds w p a k x → stored_by t (renamed r w) k x (body_in (renamed r w) (t.bodies q u))
        ≡ stored_by s w k x (body_in w (s.bodies p a))
    stored_same d p q a u k x g e =
        ap (λ b. at_place k x b t.place) (body_same (as_it_is d) p q a u k x g e)
        ∙ ap (at_place k x (body_in w (s.bodies p a))) h.place

    pub stored_forth : IsDesired s w → (y : Stored) → IsStored s w y → IsStored t (renamed r w) y
    stored_forth d y c =
        let o = put_new c.at c.instance c.kind c.title c.is_put in
        record {
          at = o.at;
          instance = o.instance;
          kind = c.kind;
          title = c.title;
          is_put = put_forth c.at o.at c.instance o.instance c.kind c.title o.pair c.is_put;
          is_so =
              stored_same d c.at o.at c.instance o.instance c.kind c.title o.pair c.is_put ∙ c.is_so;
        }

    pub stored_back : IsDesired s w → (y : Stored) → IsStored t (renamed r w) y → IsStored s w y
    stored_back d y c =
        let o = put_old c.at c.instance c.kind c.title c.is_put in
        let e = put_back o.at c.at o.instance c.instance c.kind c.title o.pair c.is_put in
        record {
          at = o.at;
          instance = o.instance;
          kind = c.kind;
          title = c.title;
          is_put = e;
          is_so =
              sym (stored_same d o.at c.at o.instance c.instance c.kind c.title o.pair e) ∙ c.is_so;
        }

module _ (r : Renaming) (i : IsOneToOne r) (s t : Desired) (h : IsRenamed r s t) where
  pub no_others : (v : World) → IsDesired t v → IsDesired s (unrenamed r v)
  no_others v d =
      back r i s t h (unrenamed r v) (unrenamed_renamable r i s t h v)
      (subst (IsDesired t)
      (sym (everywhere (renamed r (unrenamed r v)) v (is_renaming r i s t h v d.is_world))) d)

  pub desired_renamable : (w : World) → IsDesired s w → IsRenamable r w
  desired_renamable w d = renamable r i s t h w d.is_world
