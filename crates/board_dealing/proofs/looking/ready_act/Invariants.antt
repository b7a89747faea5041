use Rattle.std.proofs.Common.{◌≡◌}
use Rattle.task_agenda.specs.Agendas.{listed_count}
use Rattle.board_dealing.specs.Looks.{StaysKept, NoScopeListed}
use Rattle.board_dealing.proofs.looking.ready_act.Given as goal

abbrev pub invariant-acts : goal.invariant-acts
invariant-acts g l = record {
  sound : g.S.Standings.sound l.standings;
  planned : g.S.Standings.planned l.standings ≡ g.S.Standings.planned l.fn.standings;
  kept : StaysKept (g.S.Standings.planned l.fn.standings) (g.S.Standings.known l.fn.standings)
      (g.S.Standings.known l.standings) l.history.count l.history.events l.fn.agenda l.agenda;
  none : NoScopeListed l.fn.agenda → NoScopeListed l.agenda;
}

abbrev pub decreases-acts : goal.decreases-acts
decreases-acts g l = listed_count l.agenda
