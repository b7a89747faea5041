use Rattle.std.proofs.Common.{subst}
use Rattle.std.specs.Prelude.{MatchOption}
use Rattle.plan_puts.specs.PutTags.{AreSamePut}
use Rattle.key_faults.proofs.FaultLemmas.{put_fault}
use Rattle.key_faults.proofs.keys.check_puts.Goals as goal

pub returns-in_ok-same_fault-in-Some-clause-fault : goal.returns-in_ok-same_fault-in-Some-clause-fault
returns-in_ok-same_fault-in-Some-clause-fault c = λ mode held.
    put_fault c.args.table.now c.requires.table mode held c.in-Some.first c.in-Some.second
    c.in_ok-same_fault-in-Some.field-0
    (subst (λ o. MatchOption o (Unit {0}) (λ p. AreSamePut c.args.table.now p.0 p.1)) c.in-Some.is
    c.in_ok-first.ensures.same) c.in_ok-same_fault-in-Some.ensures
