use Rattle.std.proofs.Common.{◌≡◌, List, map, drop}
use Rattle.std.specs.Prelude.{option_map}
use Rattle.arm_expr.specs.Tree.{Tree, text, trees, more}
use Rattle.arm_expr.specs.View.{tree_of}
use Rattle.emitted_parts.specs.Emitted.{Frame}
use Rattle.emission_laws.specs.Holes.{fill}
use Rattle.emitted_parts.proofs.BuiltLemmas.{onto}
use Rattle.kept_expressions.specs.Kept.{AreKeptHoles}
use Rattle.kept_expressions.specs.Limits.{IsPut}
use Rattle.kept_parts.proofs.ids.parts_filled.Given as goal

-- the parts so far, and those that are left
abbrev pub invariant-loop-part : goal.invariant-loop-part
invariant-loop-part l =
    (ts : List Tree) (f : Frame) → AreKeptHoles ts l.parts → IsPut f.item (option_map (λ e. e.now) l.item)
    → IsPut f.index (option_map (λ e. e.now) l.index)
    → onto (map tree_of l.all.items) (trees (map (fill f) (drop l.part-index ts)))
    ≡ more (text l.kind) (trees (map (fill f) ts))
