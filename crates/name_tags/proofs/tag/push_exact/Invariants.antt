use Rattle.std.proofs.Common.{◌≡◌, ◌++◌}
use Rattle.name_tags.proofs.tag.push_exact.Given as goal

abbrev pub invariant-loop-c : goal.invariant-loop-c
invariant-loop-c l = l.tag.items ≡ l.fn.tag.items ++ l.yielded
