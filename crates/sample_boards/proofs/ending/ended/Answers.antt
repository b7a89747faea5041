use Rattle.std.proofs.Common.{List, sym, subst}
use Rattle.deploy_histories.specs.Events.{Event, progress}
use Rattle.deploy_histories.specs.Planned.{Planned}
use Rattle.deploy_core.specs.Endings.{IsTrueEnding}
use Rattle.sample_boards.proofs.ending.ended.Goals as goal

pub report-requires : goal.report-requires
report-requires g c =
    let e = c.end.ensures in
    subst (λ (y : Planned × List Event). IsTrueEnding g.S.Standings.tells y.0 (progress y.1) c.in_ok-ending.ending)
    (λ i. (sym e.planned i, (sym e.past i).events)) c.in_ok-ending.ensures.ending
