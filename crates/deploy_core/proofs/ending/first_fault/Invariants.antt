use Rattle.std.proofs.Common.{◌≡◌}
use Rattle.deploy_histories.specs.Events.{progress}
use Rattle.deploy_core.specs.Endings.{HasTurns}
use Rattle.board_dealing.specs.Looks.{StaysKept}
use Rattle.deploy_core.proofs.ending.first_fault.Given as goal

abbrev pub invariant-loop-task : goal.invariant-loop-task
invariant-loop-task g l = record {
  sound : g.S.Standings.sound l.standings;
  planned : g.S.Standings.planned l.standings ≡ g.S.Standings.planned l.fn.standings;
  kept : StaysKept (g.S.Standings.planned l.fn.standings) (g.S.Standings.known l.fn.standings)
      (g.S.Standings.known l.standings) l.history.count l.history.events l.agenda l.agenda;
  turns : HasTurns (g.S.Standings.planned l.fn.standings) (progress l.history.events) l.task l.turns;
}
