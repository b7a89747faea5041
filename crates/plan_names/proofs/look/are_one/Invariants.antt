use Rattle.std.proofs.Common.{◌≡◌, drop}
use Rattle.plan_names.specs.Named.{are_one}
use Rattle.plan_names.proofs.look.are_one.Given as goal

abbrev pub invariant-loop-other : goal.invariant-loop-other
invariant-loop-other l = are_one l.key (drop l.other-index l.keys) ≡ are_one l.key l.keys
