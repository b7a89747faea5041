use Rattle.std.proofs.Common.{◌≡◌, map, drop}
use Rattle.arm_expr.specs.Tree.{trees}
use Rattle.arm_expr.specs.View.{tree_of}
use Rattle.template_texts.specs.Sound.{have_reference}
use Rattle.template_texts.proofs.reference.+reference.Given as goal

abbrev pub invariant-have_reference-loop-e : goal.invariant-have_reference-loop-e
invariant-have_reference-loop-e l =
    have_reference (trees (map tree_of l.es)) ≡ have_reference (trees (map tree_of (drop l.e-index l.es)))
