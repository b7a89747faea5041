use Rattle.std.proofs.Common.{◌≡◌, map, drop}
use Rattle.arm_expr.specs.Tree.{trees}
use Rattle.arm_expr.specs.View.{tree_of}
use Rattle.template_texts.specs.Sound.{are_sound}
use Rattle.template_texts.proofs.sound.+sound.Given as goal

abbrev pub invariant-are_sound-loop-e : goal.invariant-are_sound-loop-e
invariant-are_sound-loop-e l =
    are_sound l.here (trees (map tree_of l.es)) ≡ are_sound l.here (trees (map tree_of (drop l.e-index l.es)))
