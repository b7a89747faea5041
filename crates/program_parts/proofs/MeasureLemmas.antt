-- What is measured of the files of a program, by their numbers.
use Rattle.std.proofs.Common.{◌≡◌, ◌≤◌, ◌+◌, inr, ℕ, zero, suc, List, [], ◌∷◌, length, None, Some, Result, Ok, Err}
use Rattle.std.proofs.Common.{refl, sym, ap, ◌∙◌, subst, arith}
use Rattle.std.specs.Prelude.{slice_get, slice_index_or, IfErr}
use Rattle.std.proofs.lemmas.Option.{slice_get_past}
use Rattle.measured_trees.specs.Extremes.{Extremes, nothing}
use Rattle.measured_trees.specs.Measures.{IsOf}
use Rattle.measured_trees.specs.declared.measure.Measure.{Measure}
use Rattle.file_templates.specs.declared.fault.EmitFault.{EmitFault}
use Rattle.file_templates.specs.declared.file.FileParts.{FileParts}
use Rattle.program_parts.specs.Faults.{IsLimitFault, IsWholeFault}
use Rattle.program_parts.specs.Measures.{AreOf, program_extremes, taken, taken_by, unmeasured, whole}
use Rattle.program_parts.specs.Parts.{AllFrom}

-- what is measured of the file of a number
abbrev pub IsTaken : List FileParts → (ℕ → Extremes) → ℕ → Measure → Type 0
IsTaken ps x k m = IsOf (taken (slice_get ps k) x) m

pub next_taken : (ps : List FileParts) (x : ℕ → Extremes) (ms : List Measure) (i : ℕ) (p : FileParts) (m : Measure)
    → length ms ≡ i → slice_get ps i ≡ Some p → IsOf (taken_by p x) m → IsTaken ps x (length ms) m
next_taken ps x ms i p m n e h =
    subst (λ k. IsTaken ps x k m) (sym n) (subst (λ o. IsOf (taken o x) m) (sym e) h)

of_none : IsOf nothing unmeasured
of_none = record { longest = refl; deepest = refl; depth = refl }

-- where all are measured, the others take nothing
from_all : (ps : List FileParts) (x : ℕ → Extremes) (k : ℕ) (ms : List Measure)
    → ((n : ℕ) → length ms ≤ n → slice_get ps (k + n) ≡ None) → AllFrom (IsTaken ps x) k ms → (n : ℕ)
    → IsOf (taken (slice_get ps (k + n)) x) (slice_index_or ms n unmeasured)
from_all ps x k [] none h n =
    subst (λ o. IsOf (taken o x) unmeasured) (sym (none n (omega arith))) of_none
from_all ps x k (m ∷ ms) none h zero =
    let same : k ≡ k + 0 = omega arith in
    subst (λ i. IsOf (taken (slice_get ps i) x) m) same h.0
from_all ps x k (m ∷ ms) none h (suc n) =
    let shift : (i : ℕ) → suc k + i ≡ k + suc i = λ i. omega arith in
    subst (λ i. IsOf (taken (slice_get ps i) x) (slice_index_or ms n unmeasured)) (shift n)
    (from_all ps x (suc k) ms (λ i le. ap (slice_get ps) (shift i) ∙ none (suc i) (omega (arith, le))) h.1 n)

pub all_taken : (ps : List FileParts) (x : ℕ → Extremes) (ms : List Measure) → length ps ≤ length ms
    → AllFrom (IsTaken ps x) 0 ms → AreOf (λ k. taken (slice_get ps k) x) ms
all_taken ps x ms le h n =
    let none : (i : ℕ) → 0 + i ≡ i = λ i. omega arith in
    subst (λ i. IsOf (taken (slice_get ps i) x) (slice_index_or ms n unmeasured)) (none n)
    (from_all ps x 0 ms (λ i more. ap (slice_get ps) (none i) ∙ slice_get_past ps i (omega (arith, le, more))) h n)

-- ---- depths

pub record SoDeep (ps : List FileParts) (n : ℕ) (ms : List Measure) : Type 0 where
  pub most : n ≤ 31
  pub of : AreOf (whole ps n) ms

pub none_whole : (ps : List FileParts) → AreOf (whole ps 0) []
none_whole ps n = of_none

pub more_whole : (ps : List FileParts) (n : ℕ) (ms : List Measure) → AreOf (λ k. taken (slice_get ps k) (whole ps n)) ms
    → AreOf (whole ps (n + 1)) ms
more_whole ps n ms h =
    let next : suc n ≡ n + 1 = omega arith in
    subst (λ m. AreOf (whole ps m) ms) next h

pub of_limit : {A : Type 0} (ps : List FileParts) (res : Result A EmitFault)
    → IfErr res (IsLimitFault (program_extremes ps)) → IfErr res (IsWholeFault ps)
of_limit ps (Ok a) h = tt
of_limit ps (Err x) h = inr h
