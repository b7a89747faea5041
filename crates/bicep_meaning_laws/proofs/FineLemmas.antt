-- Readings all of whose cells are of one sort.
use Rattle.std.proofs.Common.{◌≡◌, ℕ, zero, suc, List, [], ◌∷◌, ◌++◌, Option, Some, None, Bool, true, false, refl, sym}
use Rattle.std.proofs.Common.{subst, cond}
use Rattle.std.specs.Prelude.{pos, codes, option_map}
use Rattle.arm_value.specs.Json as j
use Rattle.arm_value.specs.Json.{Json, int}
use Rattle.arm_value.specs.Look.{is_same_folded}
use Rattle.arm_ids.specs.declared.id.Place.{Place}
use Rattle.function_numbers.specs.Kinds.{truth_of}
use Rattle.arm_env.specs.Names.{placed_named}
use Rattle.arm_env.specs.Part.{part_of, kept}
use Rattle.reading.specs.Reading.{done, read, pure, continued, both}
use Rattle.reading.specs.World.{value_in, reads_in, reads_onward, Each}
use Rattle.reading.proofs.Parts.{reads_in-continued, reads_in-both}
use Rattle.deploy_cells.specs.Cells.{Cell, World}
use Rattle.deploy_cells.specs.Guarded.{Reads}
use Rattle.bicep_tree.specs.declared.leaf.Operator.{Operator}
use Rattle.bicep_tree.specs.declared.leaf.Operator.TheVariants as o
use Rattle.bicep_meaning.specs.Rows.{capped, all, chosen, conditional_value, truth, and_value, or_value, or_if_null, coalesce_value, by_both, operator_value, operated, first_there, coalesced, value_by, called, runs_of}
use Rattle.bicep_meaning.specs.Around.{Frame, element, runs, counted, looped}

module _ (w : World) (P : Cell → Type 0) where
  abbrev pub Fine : {A : Type 0} → Reads A → Type 0
  Fine r = Each P (reads_in w r)

  both_lists : (xs ys : List Cell) → Each P xs → Each P ys → Each P (xs ++ ys)
  both_lists [] ys h k = k
  both_lists (x ∷ xs) ys h k = (h.0, both_lists xs ys h.1 k)

  pub fine-done : {A : Type 0} (o : Option A) → Fine (let d : Reads A = done o in d)
  unfolding reads_in
  fine-done o = tt

  pub fine-read : (c : Cell) → P c → Fine (let d : Reads Json = read c in d)
  unfolding reads_in
  fine-read c h = (h, tt)

  onward_fine : {A B : Type 0} (o : Option A) (f : A → Reads B) → ((x : A) → o ≡ Some x → Fine (f x))
      → Each P (reads_onward w o f)
  onward_fine None f h = tt
  onward_fine (Some x) f h = h x refl

  pub fine-continued : {A B : Type 0} (r : Reads A) (f : A → Reads B) → Fine r
      → ((x : A) → value_in w r ≡ Some x → Fine (f x)) → Fine (continued r f)
  fine-continued {A} {B} r f h k =
      subst (Each P) (sym (reads_in-continued Cell Json A B w r f))
      (both_lists (reads_in w r) _ h (onward_fine (value_in w r) f k))

  pub fine-then : {A B : Type 0} (r : Reads A) (f : A → Option B) → Fine r → Fine (continued r (λ v. done (f v)))
  fine-then r f h = fine-continued r (λ v. done (f v)) h (λ x e. fine-done (f x))

  pub fine-both : {A B : Type 0} (r : Reads A) (s : Reads B) → Fine r → Fine s → Fine (both r s)
  fine-both {A} {B} r s h k =
      subst (Each P) (sym (reads_in-both Cell Json A B w r s)) (both_lists (reads_in w r) (reads_in w s) h k)

  pub fine-capped : (r : Reads Json) → Fine r → Fine (capped r)
  unfolding capped
  fine-capped r h = fine-then r kept h

  abbrev pub AllFine : {A : Type 0} → List (Reads A) → Type 0
  AllFine [] = Unit {0}
  AllFine (r ∷ rs) = Fine r × AllFine rs

  pub fine-all : {A : Type 0} (rs : List (Reads A)) → AllFine rs → Fine (all rs)
  unfolding all
  fine-all [] h = fine-done (Some [])
  fine-all (r ∷ rs) h =
      fine-continued (both r (all rs)) (λ p. pure (p.0 ∷ p.1)) (fine-both r (all rs) h.0 (fine-all rs h.1))
      (λ p e. fine-done (Some (p.0 ∷ p.1)))

  fine-chosen : (b : Option Bool) (r s : Reads Json) → Fine r → Fine s → Fine (chosen b r s)
  fine-chosen (Some true) r s h k = h
  fine-chosen (Some false) r s h k = k
  fine-chosen None r s h k = fine-done None

  pub fine-conditional : (c r s : Reads Json) → Fine c → Fine r → Fine s → Fine (conditional_value c r s)
  unfolding conditional_value
  fine-conditional c r s g h k = fine-continued c _ g (λ v e. fine-chosen (truth_of v) r s h k)

  fine-truth : (r : Reads Json) → Fine r → Fine (truth r)
  unfolding truth
  fine-truth r h = fine-then r (λ v. option_map j.bool (truth_of v)) h

  pub fine-and : (r s : Reads Json) → Fine r → Fine s → Fine (and_value r s)
  unfolding and_value
  fine-and r s h k = fine-conditional r (truth s) (pure (j.bool false)) h (fine-truth s k) (fine-done _)

  fine-or : (r s : Reads Json) → Fine r → Fine s → Fine (or_value r s)
  unfolding or_value
  fine-or r s h k = fine-conditional r (pure (j.bool true)) (truth s) h (fine-done _) (fine-truth s k)

  fine-if-null : (v : Json) (s : Reads Json) → Fine s → Fine (or_if_null v s)
  fine-if-null j.null s h = h
  fine-if-null (j.bool b) s h = fine-done _
  fine-if-null (j.int z) s h = fine-done _
  fine-if-null (j.text t) s h = fine-done _
  fine-if-null (j.array js) s h = fine-done _
  fine-if-null (j.object ms) s h = fine-done _

  fine-coalesce : (r s : Reads Json) → Fine r → Fine s → Fine (coalesce_value r s)
  unfolding coalesce_value
  fine-coalesce r s h k = fine-continued r _ h (λ v e. fine-if-null v s k)

  pub fine-by-both : (f : Json → Json → Option Json) (r s : Reads Json) → Fine r → Fine s → Fine (by_both f r s)
  unfolding by_both
  fine-by-both f r s h k = fine-then (both r s) (λ p. f p.0 p.1) (fine-both r s h k)

  pub fine-operated : (op : Operator) (r s : Reads Json) → Fine r → Fine s → Fine (operated op r s)
  fine-operated o.Coalesce r s h k = fine-coalesce r s h k
  fine-operated o.Or r s h k = fine-or r s h k
  fine-operated o.And r s h k = fine-and r s h k
  fine-operated o.Equals r s h k = fine-by-both (operator_value o.Equals) r s h k
  fine-operated o.NotEquals r s h k = fine-by-both (operator_value o.NotEquals) r s h k
  fine-operated o.EqualsInsensitive r s h k = fine-by-both (operator_value o.EqualsInsensitive) r s h k
  fine-operated o.NotEqualsInsensitive r s h k = fine-by-both (operator_value o.NotEqualsInsensitive) r s h k
  fine-operated o.Less r s h k = fine-by-both (operator_value o.Less) r s h k
  fine-operated o.LessOrEqual r s h k = fine-by-both (operator_value o.LessOrEqual) r s h k
  fine-operated o.Greater r s h k = fine-by-both (operator_value o.Greater) r s h k
  fine-operated o.GreaterOrEqual r s h k = fine-by-both (operator_value o.GreaterOrEqual) r s h k
  fine-operated o.Add r s h k = fine-by-both (operator_value o.Add) r s h k
  fine-operated o.Subtract r s h k = fine-by-both (operator_value o.Subtract) r s h k
  fine-operated o.Multiply r s h k = fine-by-both (operator_value o.Multiply) r s h k
  fine-operated o.Divide r s h k = fine-by-both (operator_value o.Divide) r s h k
  fine-operated o.Remainder r s h k = fine-by-both (operator_value o.Remainder) r s h k

  fine-first : (rs : List (Reads Json)) → AllFine rs → Fine (first_there rs)
  unfolding first_there
  fine-first [] h = fine-done _
  fine-first (r ∷ rs) h = fine-coalesce r (first_there rs) h.0 (fine-first rs h.1)

  fine-coalesced : (rs : List (Reads Json)) → AllFine rs → Fine (coalesced rs)
  fine-coalesced [] h = fine-done None
  fine-coalesced (r ∷ rs) h = fine-first (r ∷ rs) h

  pub fine-called : (here : Place) (name : List ℕ) (rs : List (Reads Json)) → AllFine rs → Fine (called here name rs)
  unfolding called
  fine-called here name rs h = pick (is_same_folded (codes "coalesce") name)
    where
      pick : (b : Bool) → Fine (cond b (coalesced rs)
          (continued (all rs) (λ vs. done (value_by here name (placed_named name) vs))))
      pick true = fine-coalesced rs h
      pick false = fine-then (all rs) (value_by here name (placed_named name)) (fine-all rs h)

  pub record FineFrame (f : Frame) : Type 0 where
    pub item : Fine f.item
    pub index : Fine f.index

  pub fine-element : (xs i : Reads Json) → Fine xs → Fine i → FineFrame (element xs i)
  unfolding element
  fine-element xs i h k = record { item = fine-by-both part_of xs i h k; index = k }

  fine-runs : (body : Frame → Reads Json) (xs : Reads Json) (i n : ℕ) → Fine xs
      → ((f : Frame) → FineFrame f → Fine (body f)) → AllFine (runs body xs i n)
  fine-runs body xs i zero h k = tt
  fine-runs body xs i (suc n) h k =
      (k _ (fine-element xs (pure (int (pos i))) h (fine-done _)), fine-runs body xs (suc i) n h k)

  pub fine-looped : (xs : Reads Json) (body : Frame → Reads Json) → Fine xs
      → ((f : Frame) → FineFrame f → Fine (body f)) → Fine (looped xs body)
  unfolding looped
  fine-looped xs body h k =
      fine-continued (counted xs) _ (fine-then xs runs_of h)
      (λ n e. fine-continued (all (runs body xs 0 n)) _ (fine-all (runs body xs 0 n) (fine-runs body xs 0 n h k))
      (λ vs g. fine-done _))
