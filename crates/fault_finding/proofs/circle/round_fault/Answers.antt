use Rattle.plan_table.specs.Whole.{whole_of, rows_in}
use Rattle.fault_finding.proofs.PlaceLemmas.{asked_listed}
use Rattle.fault_finding.proofs.RoundLemmas.{round_each_titled, asked_is, circle_is}
use Rattle.fault_finding.proofs.circle.round_fault.Goals as goal

pub path_at-requires-clause-listed : goal.path_at-requires-clause-listed
path_at-requires-clause-listed c =
    asked_listed (rows_in c.args.table.now) c.in-Some.at c.in-Some.ensures.some.1

pub paths_of-requires-clause-titled : goal.paths_of-requires-clause-titled
paths_of-requires-clause-titled c =
    round_each_titled (whole_of c.args.table.now) (rows_in c.args.table.now) c.requires.sound c.args.round.now
    c.requires.round c.in-None.ensures.none

pub returns-in-Ok : goal.returns-in-Ok
returns-in-Ok c = λ mode held.
    asked_is (whole_of c.args.table.now) (rows_in c.args.table.now) c.requires.sound c.args.round.now c.in-Some.at
    c.in-Ok.path mode held c.requires.round c.in-Some.ensures.some.0 c.in-Some.ensures.some.1 c.in-Ok.ensures

pub returns-in-Ok-paths_of : goal.returns-in-Ok-paths_of
returns-in-Ok-paths_of c = λ mode held.
    circle_is (whole_of c.args.table.now) (rows_in c.args.table.now) c.requires.sound c.args.round.now
    c.in-Ok-paths_of.paths mode held c.requires.round c.in-None.ensures.none c.in-Ok-paths_of.ensures
