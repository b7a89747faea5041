-- The extents of what surrounds an expression, and of what it becomes.
use Rattle.std.specs.Prelude.{List, [], ◌∷◌, Option, option_to_list, Result, IfOk}
use Rattle.std.specs.declared.alloc.AllocError.{AllocError}
use Rattle.arm_expr.specs.Tree.{Tree, Trees}
use Rattle.bicep_emission.specs.Emitted.{Frame}
use Rattle.emitted_sizes.specs.Extent.{IsOf, AreOf}
use Rattle.emitted_sizes.specs.declared.extent.Extent.{Extent}
use Rattle.measured_expressions.specs.declared.spans.Span.{Span}

-- the extents of the item and the index of a run
abbrev pub IsSpan : Frame → Span → Type 0
IsSpan f s = IsOf f.item s.item × IsOf f.index s.index

abbrev pub AreSpans : List Frame → List Span → Type 0
AreSpans [] [] = Unit {0}
AreSpans (f ∷ fs) (s ∷ ss) = IsSpan f s × AreSpans fs ss
AreSpans _ _ = ⊥

-- the extent of what is emitted inside loops with these extents, or no memory
abbrev pub Measures : List Span → Result Extent AllocError → (List Frame → Tree) → Type 0
Measures ss r e = (fs : List Frame) → AreSpans fs ss → IfOk r (IsOf (e fs))

-- the same of arguments
abbrev pub MeasuresAll : List Span → Result Extent AllocError → (List Frame → Trees) → Type 0
MeasuresAll ss r es = (fs : List Frame) → AreSpans fs ss → IfOk r (AreOf (es fs))

-- the extents of the loop around a declaration, or no memory
abbrev pub Reaches : List Span → Result (Option Span) AllocError → (List Frame → List Frame) → Type 0
Reaches ss r gs = (fs : List Frame) → AreSpans fs ss → IfOk r (λ s. AreSpans (gs fs) (option_to_list s))
