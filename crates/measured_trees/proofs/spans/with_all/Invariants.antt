use Rattle.std.proofs.Common.{◌≡◌, ◌++◌, drop}
use Rattle.measured_trees.proofs.spans.with_all.Given as goal

-- what is there and what is left are the whole
abbrev pub invariant-loop-span : goal.invariant-loop-span
invariant-loop-span l = l.all.items ++ drop l.span-index l.spans ≡ l.fn.all.items ++ l.spans
