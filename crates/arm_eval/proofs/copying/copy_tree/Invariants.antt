use Rattle.std.proofs.Common.{◌≡◌, drop, map}
use Rattle.arm_value.specs.View.{member}
use Rattle.arm_eval.specs.Words.{copy_tree}
use Rattle.arm_eval.proofs.copying.copy_tree.Given as goal

abbrev pub invariant-loop-field : goal.invariant-loop-field
invariant-loop-field l = copy_tree (map member l.fields) ≡ copy_tree (map member (drop l.field-index l.fields))
