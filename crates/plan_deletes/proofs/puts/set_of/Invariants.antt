use Rattle.std.proofs.Common.{take}
use Rattle.plan_deletes.specs.KeySets.{HasKeys}
use Rattle.plan_deletes.proofs.puts.set_of.Given as goal

abbrev pub invariant-loop-key : goal.invariant-loop-key
invariant-loop-key l = HasKeys l.set (take l.key-index l.keys)
