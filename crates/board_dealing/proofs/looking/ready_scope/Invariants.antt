use Rattle.std.proofs.Common.{◌≡◌}
use Rattle.task_agenda.specs.Agendas.{listed_count}
use Rattle.board_dealing.specs.Looks.{StaysKept}
use Rattle.board_dealing.proofs.looking.ready_scope.Given as goal

abbrev pub invariant-scopes : goal.invariant-scopes
invariant-scopes g l = record {
  sound : g.S.Standings.sound l.standings;
  planned : g.S.Standings.planned l.standings ≡ g.S.Standings.planned l.fn.standings;
  kept : StaysKept (g.S.Standings.planned l.fn.standings) (g.S.Standings.known l.fn.standings)
      (g.S.Standings.known l.standings) l.history.count l.history.events l.fn.agenda l.agenda;
}

abbrev pub decreases-scopes : goal.decreases-scopes
decreases-scopes g l = listed_count l.agenda
