-- Needs of a task that are not done, once one more task is done.
use Rattle.std.proofs.Common.{◌≡◌, ◌⊎◌, inl, inr, ℕ, zero, suc, ◌<◌, ◌≤◌, Bool, true, false, List}
use Rattle.std.proofs.Common.{[], ◌∷◌, length, refl, sym, ap, subst, ◌∙◌, arith}
use Rattle.std.proofs.lemmas.Bool.{cases_eq}
use Rattle.depend_graph.proofs.Keeping.{same_test}
use Rattle.std.specs.Prelude.{not, filter, slice_index_or, slice_set, if◌then◌else◌}
use Rattle.depend_graph.specs.Shape.{Shape, times, needs_of, Needs, is_done, with_done}
use Rattle.task_agenda.specs.Lists.{IsHeldUp}

pub itself : (v : ℕ) (vs : List ℕ) → 1 ≤ times (v ∷ vs) v
itself v vs = rw (same_test v v refl) (omega arith)

module _ (f g : ℕ → Bool) (u : ℕ) (same : (v : ℕ) → (v ≡ u → ⊥) → g v ≡ f v) where
  abbrev Undones : (ℕ → Bool) → List ℕ → ℕ
  Undones t vs = length (filter (λ v. not (t v)) vs)

  later : (v : ℕ) (vs : List ℕ) (b : Bool) → (0 < Undones g vs) ⊎ (1 ≤ times vs u)
      → (0 < length (if not b then v ∷ filter (λ w. not (g w)) vs else filter (λ w. not (g w)) vs))
      ⊎ (1 ≤ times (v ∷ vs) u)
  later v vs true (inl j) = inl j
  later v vs false (inl j) = inl (omega arith)
  later v vs b (inr j) = inr (omega (arith, j))

  by_head : (v : ℕ) (vs : List ℕ) → (v ≡ u) ⊎ (v ≡ u → ⊥) → (d : Bool) → f v ≡ d
      → 0 < length (if not d then v ∷ filter (λ w. not (f w)) vs else filter (λ w. not (f w)) vs)
      → (0 < Undones f vs → (0 < Undones g vs) ⊎ (1 ≤ times vs u))
      → (0 < Undones g (v ∷ vs)) ⊎ (1 ≤ times (v ∷ vs) u)
  by_head v vs (inl i) d j h rest = inr (subst (λ (n : ℕ). 1 ≤ times (v ∷ vs) n) i (itself v vs))
  by_head v vs (inr i) true j h rest = later v vs (g v) (rest h)
  by_head v vs (inr i) false j h rest =
      inl (subst (λ (b : Bool). 0 < length (if not b then v ∷ filter (λ w. not (g w)) vs
      else filter (λ w. not (g w)) vs)) (sym (same v i ∙ j)) (omega arith))

  some_or_it : (vs : List ℕ) → 0 < Undones f vs → (0 < Undones g vs) ⊎ (1 ≤ times vs u)
  some_or_it [] h = absurd (omega (arith, h))
  some_or_it (v ∷ vs) h = by_head v vs (cases_eq v u) (f v) refl h (λ i. some_or_it vs i)

-- a need that is not done
pub record HasUndone (g : Shape) (u : ℕ) : Type 0 where
  pub need : ℕ
  pub is_need : Needs g u need
  pub is_undone : is_done g need ≡ false

module _ (f : ℕ → Bool) where
  -- a number of the list for which the test is false
  pub record HasFalse (vs : List ℕ) : Type 0 where
    pub number : ℕ
    pub is_there : 1 ≤ times vs number
    pub is_false : f number ≡ false

  false_by : (v : ℕ) (vs : List ℕ) (b : Bool) → f v ≡ b
      → 0 < length (if not b then v ∷ filter (λ w. not (f w)) vs else filter (λ w. not (f w)) vs)
      → (0 < length (filter (λ w. not (f w)) vs) → HasFalse vs) → HasFalse (v ∷ vs)
  false_by v vs false e h rest = record { number = v; is_there = itself v vs; is_false = e }
  false_by v vs true e h rest =
      let r = rest h in
      record { number = r.number; is_there = (let i = r.is_there in omega (arith, i)); is_false = r.is_false }

  first_false : (vs : List ℕ) → 0 < length (filter (λ v. not (f v)) vs) → HasFalse vs
  first_false [] h = absurd (omega (arith, h))
  first_false (v ∷ vs) h = false_by v vs (f v) refl h (λ i. first_false vs i)

pub undone_need : (g : Shape) (u : ℕ) → IsHeldUp g u → HasUndone g u
undone_need g u h =
    let r = first_false (λ v. slice_index_or g.done v false) (needs_of g u) h in
    record { need = r.number; is_need = r.is_there; is_undone = r.is_false }

pub done_other : (ds : List Bool) (u v : ℕ) → (v ≡ u → ⊥)
    → slice_index_or (slice_set ds u true) v false ≡ slice_index_or ds v false
done_other [] u v e = refl
done_other (d ∷ ds) zero zero e = absurd (e refl)
done_other (d ∷ ds) zero (suc v) e = refl
done_other (d ∷ ds) (suc u) zero e = refl
done_other (d ∷ ds) (suc u) (suc v) e = done_other ds u v (λ i. e (ap (λ (k : ℕ). suc k) i))

-- once one more is done, the task is held up still, or it needed that one
pub held_or_needs : (g : Shape) (d u : ℕ) → IsHeldUp g u → IsHeldUp (with_done g d) u ⊎ Needs g u d
held_or_needs g d u h =
    some_or_it (λ v. slice_index_or g.done v false) (λ v. slice_index_or (slice_set g.done d true) v false) d
    (λ v e. done_other g.done d v e) (needs_of g u) h
