-- The extents of the run that so many others are between.
use Rattle.std.proofs.Common.{◌≡◌, ◌<◌, ◌≤◌, ℕ, zero, suc, List, [], ◌∷◌, length, Option, Some, None}
use Rattle.std.proofs.Common.{refl, sym, subst, arith}
use Rattle.std.specs.Prelude.{slice_get, slice_index_or}
use Rattle.bicep_emission.specs.Emitted.{Frame, item_of, index_of}
use Rattle.emitted_sizes.specs.Extent.{IsOf}
use Rattle.measured_expressions.specs.Spans.{IsSpan, AreSpans}
use Rattle.measured_expressions.specs.declared.spans.Span.{Span}

-- there is a run, with these extents
abbrev pub IsFound : Option Frame → Span → Type 0
IsFound None s = ⊥
IsFound (Some f) s = IsSpan f s

pub run_found : (fs : List Frame) (ss : List Span) (n : ℕ) (s : Span) → AreSpans fs ss → n < length ss
    → s ≡ slice_index_or ss n s → IsFound (slice_get fs n) s
run_found [] [] n s a h e = absurd (omega (arith, h))
run_found [] (t ∷ ss) n s a h e = absurd a
run_found (f ∷ fs) [] n s a h e = absurd a
run_found (f ∷ fs) (t ∷ ss) zero s a h e = subst (IsSpan f) (sym e) a.0
run_found (f ∷ fs) (t ∷ ss) (suc n) s a h e = run_found fs ss n s a.1 (omega (arith, h)) e

pub no_run : (fs : List Frame) (ss : List Span) (n : ℕ) → AreSpans fs ss → length ss ≤ n → slice_get fs n ≡ None
no_run [] [] zero a h = refl
no_run [] [] (suc n) a h = refl
no_run [] (t ∷ ss) n a h = absurd a
no_run (f ∷ fs) [] n a h = absurd a
no_run (f ∷ fs) (t ∷ ss) zero a h = absurd (omega (arith, h))
no_run (f ∷ fs) (t ∷ ss) (suc n) a h = no_run fs ss n a.1 (omega (arith, h))

pub found_item : (o : Option Frame) (s : Span) → IsFound o s → IsOf (item_of o) s.item
found_item None s h = absurd h
found_item (Some f) s h = h.0

pub found_index : (o : Option Frame) (s : Span) → IsFound o s → IsOf (index_of o) s.index
found_index None s h = absurd h
found_index (Some f) s h = h.1
