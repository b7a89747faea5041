use Rattle.std.proofs.Common.{true}
use Rattle.arm_value.specs.View.{json}
use Rattle.deploy_histories.specs.Events.{progress}
use Rattle.task_standings.specs.declared.standing.Standing.TheVariants.{Ready, Waits, Stuck}
use Rattle.board_dealing.proofs.Agendas.{kept_knowing}
use Rattle.board_dealing.proofs.LookLemmas.{in_agenda, needs_done, free_so, standing_so}
use Rattle.board_replays.proofs.PlayLemmas.{not_free, not_while_waiting, not_while_stuck, ready_by}
use Rattle.board_replays.proofs.testing.is_ready_with.Goals as goal

pub is_free-requires : goal.is_free-requires
is_free-requires g c = in_agenda _ _ _ _ _ c.requires.kept.0 c.requires.kept.1 c.args.task c.requires.within

pub returns-then-not-is_free-clause-ready : goal.returns-then-not-is_free-clause-ready
returns-then-not-is_free-clause-ready g c =
    not_free (g.S.Standings.planned c.args.standings.now) (g.S.Standings.known c.args.standings.now)
    c.args.history.now.count c.args.history.now.events c.args.agenda.now c.requires.kept.0 c.requires.kept.1 c.args.task
    (json c.args.body.now) c.is_free.result c.if-not-is_free.true c.is_free.ensures

pub returns-then-not-is_free-clause-kept : goal.returns-then-not-is_free-clause-kept
returns-then-not-is_free-clause-kept g c = λ seen k. k

pub standing-requires-clause-legal : goal.standing-requires-clause-legal
standing-requires-clause-legal g c = c.requires.kept.1.is_legal

pub standing-requires-clause-waits : goal.standing-requires-clause-waits
standing-requires-clause-waits g c =
    (free_so (progress c.args.history.now.events) c.args.agenda.now c.args.task c.is_free.result true
    c.if-not-is_free.false c.is_free.ensures).0

pub standing-requires-clause-needs : goal.standing-requires-clause-needs
standing-requires-clause-needs g c =
    needs_done _ _ _ _ _ c.requires.kept.0 c.requires.kept.1 c.args.task
    (free_so (progress c.args.history.now.events) c.args.agenda.now c.args.task c.is_free.result true
    c.if-not-is_free.false c.is_free.ensures).1

pub standing-requires-clause-seen : goal.standing-requires-clause-seen
standing-requires-clause-seen g c = c.requires.kept.1.is_seen

pub standing-requires-clause-scopes : goal.standing-requires-clause-scopes
standing-requires-clause-scopes g c = c.requires.kept.1.scopes

pub returns-in_err-found-clause-kept : goal.returns-in_err-found-clause-kept
returns-in_err-found-clause-kept g c =
    λ seen k. kept_knowing _ _ _ _ _ seen k _ c.standing.ensures.seen c.standing.ensures.grows

pub returns-in-Ready-clause-kept : goal.returns-in-Ready-clause-kept
returns-in-Ready-clause-kept g c =
    λ seen k. kept_knowing _ _ _ _ _ seen k _ c.standing.ensures.seen c.standing.ensures.grows

pub returns-in-Waits-clause-kept : goal.returns-in-Waits-clause-kept
returns-in-Waits-clause-kept g c =
    λ seen k. kept_knowing _ _ _ _ _ seen k _ c.standing.ensures.seen c.standing.ensures.grows

pub returns-in-Stuck-clause-kept : goal.returns-in-Stuck-clause-kept
returns-in-Stuck-clause-kept g c =
    λ seen k. kept_knowing _ _ _ _ _ seen k _ c.standing.ensures.seen c.standing.ensures.grows

pub returns-in-Ready-clause-ready : goal.returns-in-Ready-clause-ready
returns-in-Ready-clause-ready g c =
    ready_by (g.S.Standings.planned c.args.standings.now) (g.S.Standings.known c.standing.new.self)
    c.args.history.now.count c.args.history.now.events c.args.agenda.now c.requires.kept.0
    (kept_knowing _ _ _ _ _ c.requires.kept.0 c.requires.kept.1 _ c.standing.ensures.seen c.standing.ensures.grows)
    c.args.task (json c.args.body.now) c.in-Ready.found c.is_found.result c.requires.unrefused
    (standing_so (g.S.Standings.planned c.args.standings.now) (progress c.args.history.now.events)
    (g.S.Standings.known c.standing.new.self) c.args.task c.in_ok-found.field-0 (Ready c.in-Ready.found) c.in-Ready.is
    c.in_ok-found.ensures.stands) c.is_found.ensures

pub returns-in-Waits-clause-ready : goal.returns-in-Waits-clause-ready
returns-in-Waits-clause-ready g c =
    not_while_waiting (g.S.Standings.planned c.args.standings.now) (g.S.Standings.known c.standing.new.self)
    c.args.history.now.count c.args.history.now.events c.args.agenda.now c.requires.kept.0
    (kept_knowing _ _ _ _ _ c.requires.kept.0 c.requires.kept.1 _ c.standing.ensures.seen c.standing.ensures.grows)
    c.args.task (json c.args.body.now) c.in-Waits._other
    (standing_so (g.S.Standings.planned c.args.standings.now) (progress c.args.history.now.events)
    (g.S.Standings.known c.standing.new.self) c.args.task c.in_ok-found.field-0 (Waits c.in-Waits._other) c.in-Waits.is
    c.in_ok-found.ensures.stands)

pub returns-in-Stuck-clause-ready : goal.returns-in-Stuck-clause-ready
returns-in-Stuck-clause-ready g c =
    not_while_stuck (g.S.Standings.planned c.args.standings.now) (g.S.Standings.known c.standing.new.self)
    c.args.history.now.count c.args.history.now.events c.args.agenda.now c.requires.kept.0
    (kept_knowing _ _ _ _ _ c.requires.kept.0 c.requires.kept.1 _ c.standing.ensures.seen c.standing.ensures.grows)
    c.args.task (json c.args.body.now)
    (standing_so (g.S.Standings.planned c.args.standings.now) (progress c.args.history.now.events)
    (g.S.Standings.known c.standing.new.self) c.args.task c.in_ok-found.field-0 Stuck c.in-Stuck.is
    c.in_ok-found.ensures.stands)
