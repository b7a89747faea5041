-- What is measured of a tree of a template before it is built.
use Rattle.std.specs.Prelude.{◌≡◌, max, List, Result, IfOk}
use Rattle.std.specs.declared.alloc.AllocError.{AllocError}
use Rattle.tree_building.specs.Emitted.{Frame}
use Rattle.emitted_sizes.specs.Extent.{bounded}
use Rattle.measured_expressions.specs.Spans.{AreSpans}
use Rattle.measured_expressions.specs.declared.spans.Span.{Span}
use Rattle.measured_trees.specs.Extremes.{Extremes}
use Rattle.measured_trees.specs.declared.measure.Measure.{Measure}

-- how much of the limits it takes, each number at most 2 ^ 64 - 1
pub record IsOf (x : Extremes) (m : Measure) : Type 0 where
  pub longest : m.longest ≡ bounded x.longest
  pub deepest : m.deepest ≡ bounded x.deepest
  pub depth : m.depth ≡ bounded x.depth

-- what is measured so far, and what is left, make all
abbrev pub Begins : Measure → Extremes → Extremes → Type 0
Begins m rest all = (bounded (max m.longest rest.longest) ≡ bounded all.longest)
    × ((bounded (max m.deepest rest.deepest) ≡ bounded all.deepest)
    × (bounded (max m.depth rest.depth) ≡ bounded all.depth))

-- what is measured of a tree inside loops with these extents, or no memory
abbrev pub Takes : List Span → Result Measure AllocError → (List Frame → Extremes) → Type 0
Takes ss r x = (fs : List Frame) → AreSpans fs ss → IfOk r (IsOf (x fs))
