use Rattle.std.proofs.Common.{take, map}
use Rattle.arm_value.specs.View.{json}
use Rattle.function_lists.specs.Index.{IsIndexOf}
use Rattle.function_lists.proofs.index.texts_of.Given as goal

-- the texts are those of the values so far
abbrev pub invariant-loop-value : goal.invariant-loop-value
invariant-loop-value l = IsIndexOf l.texts (map json (take l.value-index l.values))
