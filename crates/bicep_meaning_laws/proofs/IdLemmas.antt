-- The id of a resource is that of its type and its full name.
use Rattle.std.proofs.Common.{◌≡◌, ℕ, zero, suc, List, [], ◌∷◌, ◌++◌}
use Rattle.std.proofs.Common.{Option, Some, None, Bool, true, false, refl, sym, ap}
use Rattle.std.proofs.Common.{◌∙◌, subst, cond}
use Rattle.std.proofs.lemmas.Option.{none-some, cond_some, option_and_then_some}
use Rattle.std.specs.Prelude.{option_and_then}
use Rattle.std.specs.List.{onto_first, list_any}
use Rattle.arm_value.specs.Json as j
use Rattle.arm_value.specs.Json.{Json, text}
use Rattle.arm_ids.specs.Id.{is_whole}
use Rattle.arm_ids.specs.Segments.{segments, is_slash, has_slash}
use Rattle.arm_ids.specs.declared.id.Place.{Place}
use Rattle.arm_ids.specs.declared.id.ResourceId.{ResourceId}
use Rattle.arm_ids.proofs.TextLemmas.{some_segment}
use Rattle.reading.specs.Reading.{done, pure, continued, both, joined}
use Rattle.reading.specs.World.{value_in}
use Rattle.reading.proofs.Parts.{value_in-continued, value_in-both}
use Rattle.deploy_cells.specs.Cells.{Cell, World}
use Rattle.deploy_cells.specs.Guarded.{Reads}
use Rattle.deploy_cells.specs.Puts.{id_at}
use Rattle.bicep_circles.specs.Target.{number_of, target_of}
use Rattle.bicep_meaning.specs.Declarations.{DeclaredTree}
use Rattle.bicep_meaning.specs.Declarations as d
use Rattle.bicep_meaning.specs.Files.{declaration, Parent, no_parent, inside, below, parent, type_of}
use Rattle.bicep_meaning.specs.Around.{Here, Frame, Around}
use Rattle.bicep_meaning.specs.Meaning.{frames}
use Rattle.bicep_meaning.specs.Declared.{name_after, if_whole, id_named, id_with, id_after, name_value, full_name_by, id_by, id_of, declared, around}
use Rattle.foundation.proofs.TruthValues.{neither}

-- ---- segments

one_segment : (t : List ℕ) → has_slash t ≡ false → segments t ≡ t ∷ []
one_segment [] e = refl
one_segment (c ∷ cs) e =
    let p = neither (is_slash c) (list_any is_slash cs) e in
    ap (λ b. cond b ([] ∷ segments cs) (onto_first c (segments cs))) p.0 ∙ ap (onto_first c) (one_segment cs p.1)

onto_front : (x : ℕ) (p : List ℕ) (ps qs rs : List (List ℕ)) → rs ≡ p ∷ ps
    → onto_first x (rs ++ qs) ≡ onto_first x rs ++ qs
onto_front x p ps qs rs e =
    subst (λ (us : List (List ℕ)). onto_first x (us ++ qs) ≡ onto_first x us ++ qs) (sym e) refl

segments_step : (b : Bool) (x : ℕ) (ps qs : List (List ℕ)) → onto_first x (ps ++ qs) ≡ onto_first x ps ++ qs
    → cond b ([] ∷ (ps ++ qs)) (onto_first x (ps ++ qs)) ≡ cond b ([] ∷ ps) (onto_first x ps) ++ qs
segments_step true x ps qs e = refl
segments_step false x ps qs e = e

segments_with : (s t : List ℕ) → has_slash t ≡ false → segments (s ++ 47 ∷ t) ≡ segments s ++ t ∷ []
segments_with [] t e = ap (λ ps. [] ∷ ps) (one_segment t e)
segments_with (x ∷ s) t e =
    let q = some_segment s in
    ap (λ ps. cond (is_slash x) ([] ∷ ps) (onto_first x ps)) (segments_with s t e)
    ∙ segments_step (is_slash x) x (segments s) (t ∷ []) (onto_front x q.0 q.1 (t ∷ []) (segments s) q.2)

-- ---- ids

id_named_is : (place : Place) (kind : List ℕ) (v : Json) (i : ResourceId) → id_named place kind v ≡ Some i
    → (t : List ℕ) × ((v ≡ text t) × (id_at place kind t ≡ i))
id_named_is place kind (text t) i e = (t, (refl, (cond_some (is_whole (id_at place kind t)) _ i e).1))
id_named_is place kind j.null i e = absurd (none-some i e)
id_named_is place kind (j.bool b) i e = absurd (none-some i e)
id_named_is place kind (j.int z) i e = absurd (none-some i e)
id_named_is place kind (j.array js) i e = absurd (none-some i e)
id_named_is place kind (j.object ms) i e = absurd (none-some i e)

unless_slash : (b : Bool) (o : Option ResourceId) (i : ResourceId) → cond b None o ≡ Some i → (b ≡ false) × (o ≡ Some i)
unless_slash true o i e = absurd (none-some i e)
unless_slash false o i e = (refl, e)

-- the parts of the id of a child
abbrev IsAfter : List ℕ → ResourceId → Json → ResourceId → Type 0
IsAfter kind up v i = (t : List ℕ) × ((v ≡ text t) × ((has_slash t ≡ false) × (id_with up kind t ≡ i)))

id_after_is : (kind : List ℕ) (up : ResourceId) (v : Json) (i : ResourceId) → id_after kind up v ≡ Some i
    → IsAfter kind up v i
id_after_is kind up (text t) i e =
    let p = unless_slash (has_slash t) (if_whole (id_with up kind t)) i e in
    (t, (refl, (p.0, (cond_some (is_whole (id_with up kind t)) _ i p.1).1)))
id_after_is kind up j.null i e = absurd (none-some i e)
id_after_is kind up (j.bool b) i e = absurd (none-some i e)
id_after_is kind up (j.int z) i e = absurd (none-some i e)
id_after_is kind up (j.array js) i e = absurd (none-some i e)
id_after_is kind up (j.object ms) i e = absurd (none-some i e)

joined_some : {A B : Type 0} (o : Option A) (u : Option B) (p : A × B) → joined o u ≡ Some p
    → (o ≡ Some p.0) × (u ≡ Some p.1)
joined_some (Some x) (Some y) p e =
    (ap (λ o. option_and_then (λ q. Some q.0) o) e, ap (λ o. option_and_then (λ q. Some q.1) o) e)
joined_some (Some x) None p e = absurd (none-some p e)
joined_some None (Some y) p e = absurd (none-some p e)
joined_some None None p e = absurd (none-some p e)

-- the id is that of the type and a text, which is the full name
abbrev pub IsOfName : Place → List ℕ → Option Json → ResourceId → Type 0
IsOfName place kind o i = (t : List ℕ) × ((o ≡ Some (text t)) × (id_at place kind t ≡ i))

-- an id of a type, by the segments of its name
abbrev id_names : Place → List ℕ → List (List ℕ) → ResourceId
id_names place kind ns =
    record { subscription = place.subscription; group = place.group; types = segments kind; names = ns }

module _ (place : Place) (w : World) where
  own_id : (kind : List ℕ) (own : Reads Json) (i : ResourceId)
      → value_in w (continued own (λ v. done (id_named place kind v))) ≡ Some i
      → IsOfName place kind (value_in w own) i
  unfolding value_in
  own_id kind own i e =
      option_and_then_some (λ v. id_named place kind v) (value_in w own) i
      (sym (value_in-continued Cell Json Json ResourceId w own (λ v. done (id_named place kind v))) ∙ e)
      (λ v h k.
      let p = id_named_is place kind v i k in
      (p.0, (h ∙ ap (λ v. Some v) p.1.0, p.1.1)))

  child_id : (upper kind : List ℕ) (up : Reads ResourceId) (full own : Reads Json) (i : ResourceId)
      → ((u : ResourceId) → value_in w up ≡ Some u → IsOfName place upper (value_in w full) u)
      → value_in w (continued (both up own) (λ p. done (id_after kind p.0 p.1))) ≡ Some i
      → IsOfName place kind (value_in w (continued (both full own) (λ p. pure (name_after p.0 p.1)))) i
  unfolding value_in
  child_id upper kind up full own i f e =
      option_and_then_some (λ (p : ResourceId × Json). id_after kind p.0 p.1) (value_in w (both up own)) i
      (sym (value_in-continued Cell Json (ResourceId × Json) ResourceId w (both up own)
      (λ p. done (id_after kind p.0 p.1))) ∙ e)
      (λ q h k.
      let g = joined_some (value_in w up) (value_in w own) q
      (sym (value_in-both Cell Json ResourceId Json w up own) ∙ h) in
      let a = id_after_is kind q.0 q.1 i k in
      let u = f q.0 g.0 in
      let values : value_in w (both full own) ≡ Some (text u.0, text a.0) =
      value_in-both Cell Json Json Json w full own
      ∙ ap (λ o. joined o (value_in w own)) u.1.0
      ∙ ap (λ o. joined (Some (text u.0)) o) (g.1 ∙ ap (λ v. Some v) a.1.0) in (
        u.0 ++ 47 ∷ a.0,
        (
          value_in-continued Cell Json (Json × Json) Json w (both full own) (λ p. pure (name_after p.0 p.1))
              ∙ ap (λ (o : Option (Json × Json)). option_and_then (λ p. Some (name_after p.0 p.1)) o) values,
          ap (λ (ns : List (List ℕ)). id_names place kind ns) (segments_with u.0 a.0 a.1.1.0)
              ∙ ap (λ (v : ResourceId). id_with v kind a.0) u.1.1 ∙ a.1.1.1,
        ),
      ))

module _ (here : Here) (w : World) where
  abbrev HasNames : Around → Type 0
  HasNames a = (n : ℕ) (fs : List Frame) (i : ResourceId) → value_in w (a.id n fs) ≡ Some i
      → IsOfName here.place (type_of here.file n).kind (value_in w (a.full_name n fs)) i

  by_parent : (a : Around) → HasNames a → (p : Parent) (kind : List ℕ) (own : Reads Json) (fs : List Frame)
      (i : ResourceId) → value_in w (id_by here a p kind own fs) ≡ Some i
      → IsOfName here.place kind (value_in w (full_name_by here a p own fs)) i
  by_parent a h no_parent kind own fs i e = own_id here.place w kind own i e
  by_parent a h (inside n) kind own fs i e =
      child_id here.place w (type_of here.file n).kind kind (a.id n []) (a.full_name n []) own i (h n []) e
  by_parent a h (below r) kind own fs i e =
      child_id here.place w (type_of here.file (number_of (target_of r))).kind kind
      (a.id (number_of (target_of r)) (frames here a r fs))
      (a.full_name (number_of (target_of r)) (frames here a r fs)) own i
      (h (number_of (target_of r)) (frames here a r fs)) e

  by_declaration : (a : Around) → HasNames a → (n : ℕ) (o : Option DeclaredTree) (fs : List Frame) (i : ResourceId)
      → value_in w (id_of here a n o fs) ≡ Some i
      → IsOfName here.place (type_of here.file n).kind
      (value_in w (full_name_by here a (parent here.file n) (name_value here a n fs) fs)) i
  unfolding value_in
  by_declaration a h n (Some (d.a_resource at q x b)) fs i e =
      by_parent a h (parent here.file n) (type_of here.file n).kind (name_value here a n fs) fs i e
  by_declaration a h n None fs i e = absurd (none-some i e)
  by_declaration a h n (Some (d.parameter at t)) fs i e = absurd (none-some i e)
  by_declaration a h n (Some (d.parameter_with at t x)) fs i e = absurd (none-some i e)
  by_declaration a h n (Some (d.variable at v)) fs i e = absurd (none-some i e)
  by_declaration a h n (Some (d.a_module at b)) fs i e = absurd (none-some i e)

  pub id_is_of_name : (k : ℕ) → HasNames (around here k)
  unfolding value_in around declared
  id_is_of_name zero n fs i e = absurd (none-some i e)
  id_is_of_name (suc k) n fs i e =
      by_declaration (around here k) (id_is_of_name k) n (declaration here.file n) fs i e
