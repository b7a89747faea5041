use Rattle.std.proofs.Common.{◌≡◌, map, drop}
use Rattle.std.specs.Prelude.{option_map}
use Rattle.arm_expr.specs.Tree.{trees}
use Rattle.arm_expr.specs.View.{tree_of}
use Rattle.emitted_parts.specs.Emitted.{Frame}
use Rattle.measured_holes.specs.Holes.{fill_all}
use Rattle.emitted_parts.proofs.BuiltLemmas.{onto}
use Rattle.kept_expressions.specs.Limits.{IsPut}
use Rattle.kept_expressions.proofs.filling.+filling.Given as goal

-- the parts so far, and those that are left
abbrev pub invariant-all_filled-loop-part : goal.invariant-all_filled-loop-part
invariant-all_filled-loop-part l =
    (f : Frame) → IsPut f.item (option_map (λ e. e.now) l.item) → IsPut f.index (option_map (λ e. e.now) l.index)
    → onto (map tree_of l.all.items) (fill_all f (trees (map tree_of (drop l.part-index l.parts))))
    ≡ fill_all f (trees (map tree_of l.parts))
