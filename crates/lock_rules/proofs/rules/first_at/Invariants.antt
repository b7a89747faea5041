use Rattle.std.proofs.Common.{take}
use Rattle.lock_rules.specs.Rules.{NoneOf, CoversAt}
use Rattle.lock_rules.proofs.rules.first_at.Given as goal

abbrev pub invariant-loop-lock : goal.invariant-loop-lock
invariant-loop-lock l = NoneOf (CoversAt l.level l.key) (take l.lock-index l.locks)
