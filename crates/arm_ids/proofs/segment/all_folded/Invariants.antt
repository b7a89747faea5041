use Rattle.std.proofs.Common.{◌≡◌, take, map}
use Rattle.arm_value.specs.Look.{fold}
use Rattle.arm_ids.proofs.segment.all_folded.Given as goal

abbrev pub invariant-loop-text : goal.invariant-loop-text
invariant-loop-text l = l.all.items ≡ map fold (take l.text-index l.text-items)
