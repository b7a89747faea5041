-- The parts of names in ids: of a text, of a name of one segment, and of one with more.
use Rattle.std.proofs.Common.{◌≡◌, ◌<◌, ℕ, zero, suc, length, List, [], ◌∷◌, ◌++◌, map, Option, Some, None, Bool, true}
use Rattle.std.proofs.Common.{false, refl, sym, ap, ◌∙◌, subst, arith}
use Rattle.std.proofs.lemmas.Option.{none-some, cond_some}
use Rattle.std.specs.Prelude.{◌==◌, ◌&&◌, not, ◌-◌, option_map, option_and_then, if◌then◌else◌}
use Rattle.foundation.proofs.TruthValues.{and_false}
use Rattle.arm_value.specs.Json.{Json, null, bool, int, text, array, object}
use Rattle.arm_value.specs.Look.{fold}
use Rattle.arm_ids.specs.Id.{has_empty_segment}
use Rattle.arm_ids.specs.Segments.{segments, slashed, joined, has_slash}
use Rattle.arm_ids.specs.declared.id.ResourceId.{ResourceId}
use Rattle.arm_ids.proofs.SegmentLemmas.{slashed-segments, segments-fold}
use Rattle.arm_ids.proofs.TextLemmas.{some_segment}
use Rattle.arm_expr.specs.Tree.{Tree, trees}
use Rattle.arm_expr.specs.Tree as tree
use Rattle.arm_env.specs.Look as look
use Rattle.arm_env.specs.Look.{Looking, Surroundings}
use Rattle.function_texts.specs.Cuts.{texts_in}
use Rattle.function_numbers.specs.Kinds as kinds
use Rattle.emitted_declarations.specs.Meaning.{value, values}
use Rattle.emitted_declarations.proofs.Equations.{texts}
use Rattle.reading.specs.Reading.{done, pure, none, continued, both}
use Rattle.reading.specs.World.{value_in}
use Rattle.deploy_cells.specs.Guarded.{Reads}
use Rattle.bicep_emission.specs.Declared.{id_named}
use Rattle.bicep_emission.specs.Alike.{Seen, seen_in}
use Rattle.bicep_emission.specs.Answered.{IsPlainPlace, Sides, deployment_types}
use Rattle.bicep_emission.specs.Made.{made, is_made, made_whole}
use Rattle.bicep_emission.specs.Stands.{Like, IsOfResource}
use Rattle.bicep_emission.proofs.SeenLemmas.{then_seen, both_seen, done_seen, seen-continued, seen-both, value-seen}
use Rattle.bicep_emission.proofs.CallLemmas.{seen}
use Rattle.bicep_emission.proofs.MadeLemmas.{reads_back, one_segment}
use Rattle.bicep_emission.proofs.StateLemmas.{all_after}
use Rattle.emitted_declarations.specs.Declared.{parts_by_number, number_of_parts}
use Rattle.emitted_declarations.specs.Parts.{made_of, PartsStand}
use Rattle.emitted_declarations.proofs.NameLemmas.{parts_make, made_of_segments}
use Rattle.emitted_declarations.proofs.PartLemmas.{values_from}
use Rattle.emitted_declarations.proofs.IdLemmas.{parts_are, parts_of_name, named_by_parts, texts_back}
use Rattle.declaration_laws.specs.Sound.{IsResourceType}
use Rattle.arm_ids.specs.Members.{deployment_type}

-- ---- segments

-- the segments of a text, joined, are the text
joined-segments : (t : List ℕ) → joined (segments t) ≡ t
joined-segments t = let q = some_segment t in by_first q.0 q.1 q.2
  where
    by_first : (s : List ℕ) (ss : List (List ℕ)) → segments t ≡ s ∷ ss → joined (segments t) ≡ t
    by_first s ss e = ap joined e ∙ after_slash (sym (ap slashed e) ∙ slashed-segments t)
      where
        after_slash : 47 ∷ (s ++ slashed ss) ≡ 47 ∷ t → s ++ slashed ss ≡ t
        after_slash q = cc

segments_tell : (s t : List ℕ) → segments s ≡ segments t → s ≡ t
segments_tell s t e = sym (joined-segments s) ∙ ap joined e ∙ joined-segments t

-- a type of two segments or more has a slash
pub type_divided : (kind : List ℕ) → IsResourceType kind → has_slash kind ≡ true
type_divided kind h = by_slash (has_slash kind) refl
  where
    one_is_few : length (segments kind) ≡ 1 → 1 < length (segments kind) → ⊥
    one_is_few e l = omega arith

    by_slash : (b : Bool) → has_slash kind ≡ b → has_slash kind ≡ true
    by_slash true e = e
    by_slash false e = absurd (one_is_few (ap length (one_segment kind e)) h.has_segments)

pub no_deployment : (kind : List ℕ) → IsResourceType kind → map fold (segments kind) ≡ deployment_types → ⊥
no_deployment kind h e =
    h.is_resource (segments_tell (fold kind) (fold deployment_type) (segments-fold kind ∙ e))

-- ---- ids that parts make

abbrev seen_value : {A : Type 0} → Seen A → Option A
seen_value s = s.0

module _ (x : Sides) (around : Surroundings) (plain_place : IsPlainPlace around.place) (kind : List ℕ)
    (h : IsResourceType kind) where
  -- an id of such a type is read again, and is of no nested deployment
  of_made : (ns : List (List ℕ)) (i : ResourceId) → made_whole around.place kind ns ≡ Some i → IsOfResource x i
  of_made ns i e =
      let c = cond_some (is_made around.place kind ns) (made around.place kind ns) i e in
      subst (IsOfResource x) c.1 (record {
        is_read = reads_back around.place kind ns plain_place c.0;
        is_resource = no_deployment kind h;
      })

  of_texts : (o : Option (List (List ℕ))) (i : ResourceId)
      → option_and_then (made_whole around.place kind) o ≡ Some i → IsOfResource x i
  of_texts None i e = absurd (none-some i e)
  of_texts (Some ns) i e = of_made ns i e

  of_parts : (s : Seen (List Json)) (i : ResourceId)
      → seen_value (then_seen s (λ vs. done_seen (made_of around.place kind vs))) ≡ Some i → IsOfResource x i
  of_parts (Some vs, b) i e = of_texts (texts_in vs) i e
  of_parts (None, b) i e = absurd (none-some i e)

  pub ids_of_resources : (ps : List Tree) (r : Reads ResourceId) → PartsStand x around kind ps r
      → (i : ResourceId) → value_in x.source r ≡ Some i → IsOfResource x i
  unfolding seen_in
  ids_of_resources ps r p i e =
      of_parts (seen_in x.template x.template_marks (look.all (values around (trees ps)))) i
      (ap seen_value (sym (seen-continued x.template x.template_marks (look.all (values around (trees ps)))
      (λ vs. done (made_of around.place kind vs))) ∙ p)
      ∙ value-seen x.source x.source_marks r ∙ e)

module _ (x : Sides) (around : Surroundings) where
  abbrev sees : {A : Type 0} → Looking A → Seen A
  sees r = seen_in x.template x.template_marks r

  -- ---- the segments of a text without holes

  known_texts : (ss : List (List ℕ))
      → sees (look.all (values around (trees (map tree.text ss)))) ≡ done_seen (Some (map text ss))
  unfolding look.all seen_in
  known_texts [] = refl
  known_texts (s ∷ ss) =
      seen-continued x.template x.template_marks
      (both (value around (tree.text s)) (look.all (values around (trees (map tree.text ss)))))
      (λ p. pure (p.0 ∷ p.1))
      ∙ ap (λ t. then_seen t (λ p. done_seen (Some (p.0 ∷ p.1))))
      (seen-both x.template x.template_marks (value around (tree.text s)) (look.all (values around (trees (map
      tree.text ss))))
      ∙ ap (λ u. both_seen (sees u) (sees (look.all (values around (trees (map tree.text ss))))))
      (texts around s)
      ∙ ap (both_seen (done_seen (Some (text s)))) (known_texts ss))

  abbrev segments_of : Json → Option (List Json)
  segments_of v = option_map (λ t. map text (segments t)) (kinds.text_of v)

  segments_made : (kind : List ℕ) (v : Json)
      → option_and_then (made_of around.place kind) (segments_of v) ≡ id_named around.place kind v
  segments_made kind (text t) =
      ap (option_and_then (made_whole around.place kind)) (texts_back x around (segments t))
      ∙ made_of_segments around.place kind t
  segments_made kind null = refl
  segments_made kind (bool b) = refl
  segments_made kind (int z) = refl
  segments_made kind (array js) = refl
  segments_made kind (object ms) = refl

  pub text_parts : (kind t : List ℕ) (r : Reads Json) → seen x r ≡ done_seen (Some (text t))
      → PartsStand x around kind (map tree.text (segments t))
      (continued r (λ v. done (id_named around.place kind v)))
  text_parts kind t r e =
      parts_of_name x around kind (map tree.text (segments t)) r segments_of
      (known_texts (segments t) ∙ sym (ap (λ s. then_seen s (λ v. done_seen (segments_of v))) e))
      (segments_made kind)

  -- ---- a name of one segment

  abbrev alone : Json → Option (List Json)
  alone v = Some (v ∷ [])

  one_name : (kind t : List ℕ) → length (segments kind) ≡ 2
      → made_whole around.place kind (t ∷ []) ≡ id_named around.place kind (text t)
  one_name kind t h =
      ap (λ s. made_whole around.place kind (s ∷ [])) (sym (joined-segments t))
      ∙ parts_make around.place kind t 0 h

  name_made : (kind : List ℕ) → length (segments kind) ≡ 2 → (v : Json)
      → option_and_then (made_of around.place kind) (alone v) ≡ id_named around.place kind v
  unfolding texts_in
  name_made kind h (text t) = one_name kind t h
  name_made kind h null = refl
  name_made kind h (bool b) = refl
  name_made kind h (int z) = refl
  name_made kind h (array js) = refl
  name_made kind h (object ms) = refl

  one_part : (kind : List ℕ) (own : Tree) (r : Reads Json) → Like x (value around own) r
      → length (segments kind) ≡ 2
      → PartsStand x around kind (own ∷ []) (continued r (λ v. done (id_named around.place kind v)))
  one_part kind own r i h =
      parts_of_name x around kind (own ∷ []) r alone
      (all_after x.template x.template_marks (value around own) [] [] refl
      ∙ ap (λ s. then_seen s (λ a. done_seen (Some (a ∷ [])))) i)
      (name_made kind h)

  -- ---- by the number of segments

  more_than : (m n : ℕ) → 1 < m → m - 1 ≡ n → m ≡ suc n
  more_than m n l e = omega arith

  none_less : (m : ℕ) → 1 < m → m - 1 ≡ 0 → ⊥
  none_less m l e = omega arith

  pub number_parts : (kind : List ℕ) (own : Tree) (r : Reads Json) → Like x (value around own) r
      → IsResourceType kind → (n : ℕ) → number_of_parts kind ≡ n
      → PartsStand x around kind (parts_by_number own n) (continued r (λ v. done (id_named around.place kind v)))
  number_parts kind own r i h zero e = absurd (none_less (length (segments kind)) h.has_segments e)
  number_parts kind own r i h (suc zero) e =
      one_part kind own r i (more_than (length (segments kind)) 1 h.has_segments e)
  number_parts kind own r i h (suc (suc n)) e =
      parts_of_name x around kind (parts_by_number own (suc (suc n))) r (values_from 0 (suc n))
      (parts_are x around own r i (suc n) 0)
      (named_by_parts x around around.place kind (suc n)
      (more_than (length (segments kind)) (suc (suc n)) h.has_segments e))

  -- ---- what is no resource

  -- without names there is no id
  without_names : (kind : List ℕ) → is_made around.place kind [] ≡ false
  without_names kind =
      ap (λ q. (not (has_empty_segment (made around.place kind [])) && q) && true)
      (and_false (length (segments kind) == 1) false refl)
      ∙ ap (λ q. q && true) (and_false (not (has_empty_segment (made around.place kind []))) false refl)

  pub empty_parts : (kind : List ℕ) → PartsStand x around kind [] none
  unfolding look.all continued seen_in texts_in
  empty_parts kind = ap (λ q. with_mark (if q then Some (made around.place kind []) else None)) (without_names kind)
    where
      with_mark : Option ResourceId → Seen ResourceId
      with_mark o = (o, false)
