use Rattle.std.proofs.Common.{take, map}
use Rattle.arm_value.specs.View.{member}
use Rattle.arm_eval.specs.Trees.{names_of}
use Rattle.arm_eval.specs.Free.{AreNames}
use Rattle.arm_eval.proofs.names.names_in.Given as goal

-- the names are those of the members so far
abbrev pub invariant-loop-field : goal.invariant-loop-field
invariant-loop-field l = AreNames l.names (names_of (map member (take l.field-index l.fields)))
