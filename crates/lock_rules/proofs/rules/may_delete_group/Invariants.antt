use Rattle.std.proofs.Common.{take}
use Rattle.lock_rules.specs.Rules.{NoneOf, ForbidsGroup}
use Rattle.lock_rules.proofs.rules.may_delete_group.Given as goal

abbrev pub invariant-loop-kept : goal.invariant-loop-kept
invariant-loop-kept l = NoneOf (ForbidsGroup l.subscription l.group) (take l.kept-index l.locks)
