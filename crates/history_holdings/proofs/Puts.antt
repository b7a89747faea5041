-- The puts of a desired state: their names make ids, and each key of the plan is put at.
use Rattle.std.proofs.Common.{◌≡◌, inl, inr, ℕ, Bool, true, false, true≢false, List, [], ◌∷◌, Option, Some, None}
use Rattle.std.proofs.Common.{refl, sym, ap, ap₂, subst, ◌∙◌}
use Rattle.std.specs.Prelude.{is_some, option_map, if◌then◌else◌}
use Rattle.std.proofs.lemmas.Option.{none-some, same_Some}
use Rattle.arm_value.specs.Json.{Json, text}
use Rattle.arm_ids.specs.Id.{is_whole, text_of, folded_text, IsIdOf}
use Rattle.arm_ids.specs.Held.{HeldResource}
use Rattle.arm_ids.specs.declared.id.ResourceId.{ResourceId}
use Rattle.template_parts.specs.declared.mode.Mode.{Mode}
use Rattle.template_parts.specs.declared.mode.Mode.TheVariants.{Incremental, Complete}
use Rattle.deploy_cells.specs.Cells.{Step, Position, Cell, name, state, World, is_admitted}
use Rattle.deploy_cells.specs.Guarded.{Reads}
use Rattle.deploy_cells.specs.Puts.{Kind, IsPut, IsPutAt, body_in, id_at, key_at}
use Rattle.plan_cells.specs.Resources.{Listed}
use Rattle.plan_cells.specs.Scopes.{resource_of}
use Rattle.plan_cells.specs.Meaning.{Deployment, raw, rule, is_name, bodies}
use Rattle.plan_cells.specs.Desired.{kind_of, kinds, is_state, Satisfies}
use Rattle.plan_cells.specs.Children.{Has}
use Rattle.plan_cells.specs.Tasks as task
use Rattle.plan_cells.specs.Tasks.{Task, key_by, deletes_in}
use Rattle.plan_cells.proofs.DesiredLemmas.{valued, by_admitted, not_admitted}
use Rattle.plan_cells.proofs.ListLemmas.{has_joined, has_left, has_right}
use Rattle.deploy_histories.specs.Planned.{Planned, IsPlanned}
use Rattle.deploy_histories.specs.Outcome.{resource_put}
use Rattle.history_laws.proofs.Puts.{key_has_put}
use Rattle.history_laws.proofs.Included.{the_works, put_is, one_kind}
use Rattle.history_holdings.specs.Opening.{IsOpening}
use Rattle.history_holdings.proofs.ReadingLemmas.{id_of_whole, one_key}
use Rattle.history_holdings.proofs.Deletes.{IsDeletedOf, deleted_of, deletes_all}

-- ---- names of which keys are formed

module _ (d : Deployment) (held : List HeldResource) (w : World) (sat : Satisfies d held w) where
  -- what a cell has in a desired state meets its rule
  met : (c : Cell) (j : Json) → is_state c ≡ false → w c ≡ Some j → rule d c j ≡ true
  met c j s e = by_admission (is_admitted w c) refl
    where
      by_raw : is_admitted w c ≡ true → (o : Option (Reads Json)) → raw d c ≡ o → rule d c j ≡ true
      by_raw a None f = absurd (none-some j (sym (by_admitted d w sat.is_world c f s true a) ∙ e))
      by_raw a (Some r) f =
          let v = valued d w sat.is_world c s r f a in
          subst (λ (i : Json). rule d c i ≡ true) (same_Some v.value j (sym v.has ∙ e)) v.meets

      by_admission : (b : Bool) → is_admitted w c ≡ b → rule d c j ≡ true
      by_admission true a = by_raw a (raw d c) refl
      by_admission false a = absurd (none-some j (sym (not_admitted d w sat.is_world c a) ∙ e))

  formed : (b : Bool) (k : ResourceId) → is_some (if b then Some k else None) ≡ true → b ≡ true
  formed true k e = refl
  formed false k e = e

  by_listed : (o : Option Listed) (k : Kind) (n : List ℕ) → is_name d (text n) o ≡ true → option_map kind_of o ≡ Some k
      → is_whole (id_at d.place k.type n) ≡ true
  by_listed None k n e f = absurd (true≢false (sym e))
  by_listed (Some r) k n e f =
      ap (λ (c : Kind). is_whole (id_at d.place c.type n)) (sym (same_Some (kind_of r) k f))
      ∙ formed (is_whole (id_at d.place r.type n)) (key_at d.place r.type n) e

  -- the id of what is put is whole
  pub put_whole : (p : Position) (s : Step) (k : Kind) (n : List ℕ) → IsPut (kinds d) w p s k n
      → is_whole (id_at d.place k.type n) ≡ true
  put_whole p s k n i =
      by_listed (resource_of d.template p s.resource) k n (met (name p s) (text n) refl i.is_included.has_name)
      i.is_included.is_declared

-- ---- one put at a key

abbrev head_of : Step → Position → Step
head_of s [] = s
head_of s (t ∷ p) = t

abbrev tail_of : Position → Position
tail_of [] = []
tail_of (t ∷ p) = p

module _ (x : Planned) (planned : IsPlanned x) (opening : IsOpening x) (w : World)
    (sat : Satisfies x.deployment x.held w) where
  abbrev d : Deployment
  d = x.deployment

  -- the id of what is put is that of its key
  pub put_id : (p : Position) (s : Step) (k : Kind) (n : List ℕ) → IsPut (kinds d) w p s k n
      → IsIdOf (text_of (id_at d.place k.type n)) (key_at d.place k.type n)
  put_id p s k n i = id_of_whole d.place k.type n opening.is_plain (put_whole d x.held w sat p s k n i)

  one_instance : (p : Position) (s : Step) (k l : Kind) (m n : List ℕ) (b c u v : Json)
      → IsPut (kinds d) w p s k m → IsPut (kinds d) w p s l n
      → body_in w (bodies d p s) ≡ Some b → body_in w (bodies d p s) ≡ Some c
      → w (state (key_at d.place k.type m)) ≡ Some u → w (state (key_at d.place l.type n)) ≡ Some v
      → resource_put d.place k m b u ≡ resource_put d.place l n c v
  one_instance p s k l m n b c u v i j f g e h =
      let o = one_kind x planned w sat.is_world p s k l m n i j in
      let body : b ≡ c = same_Some b c (sym f ∙ g) in
      let stored : u ≡ v
      = same_Some u v
      (sym e ∙ (ap₂ (λ (y : Kind) (t : List ℕ). w (state (key_at d.place y.type t))) o.0 o.1 ∙ h)) in
      λ z. resource_put d.place (o.0 z) (o.1 z) (body z) (stored z)

  -- what is put at one id is one resource
  pub one_resource : (p q : Position) (s t : Step) (k l : Kind) (m n : List ℕ) (b c u v : Json)
      → IsPut (kinds d) w p s k m → IsPut (kinds d) w q t l n
      → body_in w (bodies d p s) ≡ Some b → body_in w (bodies d q t) ≡ Some c
      → w (state (key_at d.place k.type m)) ≡ Some u → w (state (key_at d.place l.type n)) ≡ Some v
      → folded_text (key_at d.place k.type m) ≡ folded_text (key_at d.place l.type n)
      → resource_put d.place k m b u ≡ resource_put d.place l n c v
  one_resource p q s t k l m n b c u v i j f g e h same =
      let key = one_key (text_of (id_at d.place k.type m)) (text_of (id_at d.place l.type n))
      (key_at d.place k.type m) (key_at d.place l.type n) (put_id p s k m i) (put_id q t l n j) same in
      let one : (s ∷ p) ≡ (t ∷ q) = sat.resources_differ p q s t k l m n i j key in
      one_instance p s k l m n b c u v i
      (subst (λ (z : Position). IsPut (kinds d) w (tail_of z) (head_of s z) l n) (sym one) j) f
      (subst (λ (z : Position). body_in w (bodies d (tail_of z) (head_of s z)) ≡ Some c) (sym one) g) e h

  -- ---- keys of the plan

  -- something is put at each key of the plan
  pub key_put : (k : ResourceId) → Has k x.keys → IsPutAt d.place (kinds d) w k
  key_put k h =
      let ws = the_works x planned w sat.is_world in
      let g = key_has_put d w k ws.scopes x.keys ws.has_keys h in
      let among = subst (λ (ts : List Task). Has (task.put g.at g.instance) ts) (sym ws.joined)
      (has_left (task.put g.at g.instance) ws.scopes (deletes_in x.mode d.place x.keys x.held) g.listed) in
      let q = put_is x planned w sat.is_world g.at g.instance among in
      let title : g.title ≡ text q.title
      = same_Some g.title (text q.title) (sym g.has_name ∙ q.is_put.is_included.has_name) in
      record {
        at = g.at;
        instance = g.instance;
        kind = q.kind;
        title = q.title;
        is_put = q.is_put;
        has_key =
            same_Some (key_at d.place q.kind.type q.title) k
            (sym (ap (key_by d.place (kinds d g.at g.instance.resource)) title
            ∙ ap (λ (o : Option Kind). key_by d.place o (text q.title)) q.is_put.is_included.is_declared)
            ∙ g.is_key);
      }

  -- ---- what the plan deletes

  -- a deletion is one of complete mode
  pub record IsDeletion (k : ResourceId) : Type 0 where
    pub is_complete : x.mode ≡ Complete
    pub deleted : IsDeletedOf d.place x.keys x.held k

  by_mode : (m : Mode) → x.mode ≡ m → (k : ResourceId) → Has (task.delete k) (deletes_in m d.place x.keys x.held)
      → IsDeletion k
  by_mode Incremental e k h = absurd h
  by_mode Complete e k h = record { is_complete = e; deleted = deleted_of d.place x.keys x.held k h }

  pub deletion_of : (k : ResourceId) → Has (task.delete k) x.tasks → IsDeletion k
  deletion_of k h =
      let ws = the_works x planned w sat.is_world in
      elim (has_joined (task.delete k) ws.scopes (deletes_in x.mode d.place x.keys x.held)
      (subst (λ (ts : List Task). Has (task.delete k) ts) ws.joined h)) [
        | inl i ↦ absurd (ws.are_tasks.each (task.delete k) i)
        | inr i ↦ by_mode x.mode refl k i
      ]

  -- what is held in the group is deleted, in complete mode, where the plan has no such key
  pub deletes_it : (k : ResourceId) → x.mode ≡ Complete → IsDeletedOf d.place x.keys x.held k
      → Has (task.delete k) x.tasks
  deletes_it k c i =
      let ws = the_works x planned w sat.is_world in
      subst (λ (ts : List Task). Has (task.delete k) ts) (sym ws.joined)
      (has_right (task.delete k) ws.scopes (deletes_in x.mode d.place x.keys x.held)
      (subst (λ (m : Mode). Has (task.delete k) (deletes_in m d.place x.keys x.held)) (sym c)
      (deletes_all d.place x.keys x.held i.entry k i.is_held i.of_key i.is)))
