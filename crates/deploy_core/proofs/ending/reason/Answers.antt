use Rattle.deploy_histories.specs.Events.{progress}
use Rattle.board_dealing.proofs.Agendas.{kept_knowing}
use Rattle.deploy_core.proofs.EndLemmas.{undone_waits, nothing_comes, need_by_all, found_need}
use Rattle.board_dealing.proofs.LookLemmas.{needs_done}
use Rattle.deploy_core.proofs.ending.reason.Goals as goal

pub failing-requires-clause-waits : goal.failing-requires-clause-waits
failing-requires-clause-waits g c =
    undone_waits (progress c.args.history.now.events) c.requires.ended.none_begun c.args.task c.requires.undone

pub failing-requires-clause-over : goal.failing-requires-clause-over
failing-requires-clause-over g c =
    nothing_comes (g.S.Standings.planned c.args.standings.now) (progress c.args.history.now.events)
    c.requires.ended c.requires.unrefused c.args.task c.requires.within c.requires.undone

pub failing-requires-clause-needs : goal.failing-requires-clause-needs
failing-requires-clause-needs g c =
    needs_done _ _ _ _ _ c.requires.kept.0 c.requires.kept.1 c.args.task (c.is_ready.ensures.ready c.if-is_ready.true)

pub returns-then-is_ready-clause-kept : goal.returns-then-is_ready-clause-kept
returns-then-is_ready-clause-kept g c =
    λ seen k. kept_knowing _ _ _ _ _ seen k _ c.failing.ensures.seen c.failing.ensures.grows

pub returns-else-is_ready-clause-reason : goal.returns-else-is_ready-clause-reason
returns-else-is_ready-clause-reason g c =
    found_need g.S.Standings.tells (g.S.Standings.planned c.args.standings.now) (progress c.args.history.now.events)
    c.args.agenda.now c.args.task c.undone_need.result
    (λ v n e. need_by_all c.needed_by_all.ensures (g.S.Standings.planned c.args.standings.now)
    (g.S.Standings.known c.args.standings.now) c.args.history.now.count c.args.history.now.events c.args.agenda.now
    c.requires.kept.0 c.requires.kept.1 c.args.task v c.requires.undone n e) c.undone_need.ensures
