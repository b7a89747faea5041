use Rattle.std.proofs.Common.{◌≡◌, ◌++◌}
use Rattle.arm_value.specs.Look.{fold}
use Rattle.name_tags.proofs.tag.push_folded.Given as goal

abbrev pub invariant-loop-c : goal.invariant-loop-c
invariant-loop-c l = l.tag.items ≡ l.fn.tag.items ++ fold l.yielded
