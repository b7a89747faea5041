use Rattle.std.proofs.Common.{None}
use Rattle.deploy_histories.specs.Events.{progress}
use Rattle.board_dealing.proofs.LookLemmas.{kept_as}
use Rattle.deploy_core.proofs.EndLemmas.{turns_so, turns_of, ending_of}
use Rattle.deploy_core.proofs.ending.ending_by.Goals as goal

pub ending_in_turn-requires-clause-seen : goal.ending_in_turn-requires-clause-seen
ending_in_turn-requires-clause-seen g c =
    (kept_as _ _ _ _ _ _ _ _ c.first_fault.ensures.planned c.first_fault.ensures.kept c.requires.kept).1.is_seen

pub ending_in_turn-requires-clause-scopes : goal.ending_in_turn-requires-clause-scopes
ending_in_turn-requires-clause-scopes g c =
    (kept_as _ _ _ _ _ _ _ _ c.first_fault.ensures.planned c.first_fault.ensures.kept c.requires.kept).1.scopes

pub ending_in_turn-requires-clause-turns : goal.ending_in_turn-requires-clause-turns
ending_in_turn-requires-clause-turns g c =
    turns_of (g.S.Standings.planned c.first_fault.new.standings) (g.S.Standings.planned c.args.standings.now)
    (progress c.args.history.now.events) c.first_fault.new.turns c.first_fault.ensures.planned
    (turns_so g.S.Standings.tells (g.S.Standings.planned c.args.standings.now) (progress c.args.history.now.events)
    c.first_fault.new.turns c.in_ok-task.field-0 None c.in-None.is c.in_ok-task.ensures.turns)

pub returns-in-None-clause-ending : goal.returns-in-None-clause-ending
returns-in-None-clause-ending g c =
    ending_of g.S.Standings.tells (g.S.Standings.planned c.args.standings.now) (progress c.args.history.now.events)
    (g.S.Standings.planned c.first_fault.new.standings) c.first_fault.ensures.planned c.ending_in_turn.result
    c.ending_in_turn.ensures
