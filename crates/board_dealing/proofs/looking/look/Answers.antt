use Rattle.std.proofs.Common.{sym, refl, subst, true, false}
use Rattle.deploy_histories.specs.Events.{progress}
use Rattle.task_standings.specs.declared.standing.Standing.{Standing}
use Rattle.task_standings.specs.declared.standing.Standing.TheVariants.{Ready, Waits, Stuck}
use Rattle.task_standings.specs.Standings.{Enters, Leaves}
use Rattle.board_dealing.proofs.LookLemmas.{in_agenda, needs_done, kept_held, kept_stuck, awaited_within, free_so}
use Rattle.board_dealing.proofs.LookLemmas.{standing_so, off_of, put_off_kept, put_off_looked, looked_ready}
use Rattle.board_dealing.proofs.Agendas.{kept_knowing}
use Rattle.board_dealing.proofs.looking.look.Goals as goal

pub is_free-requires : goal.is_free-requires
is_free-requires g c = in_agenda _ _ _ _ _ c.requires.kept.0 c.requires.kept.1 c.args.task c.requires.within

pub returns-then-not-is_free-clause-kept : goal.returns-then-not-is_free-clause-kept
returns-then-not-is_free-clause-kept g c =
    λ seen k. kept_held _ _ _ _ _ seen k _ c.args.task c.take_off.ensures
    (free_so (progress c.args.history.now.events) c.args.agenda.now c.args.task c.is_free.result false
    c.if-not-is_free.true c.is_free.ensures)

pub returns-then-not-is_free-clause-looked : goal.returns-then-not-is_free-clause-looked
returns-then-not-is_free-clause-looked g c = off_of _ _ _ c.take_off.ensures

pub standing-requires-clause-legal : goal.standing-requires-clause-legal
standing-requires-clause-legal g c = c.requires.kept.1.is_legal

pub standing-requires-clause-waits : goal.standing-requires-clause-waits
standing-requires-clause-waits g c =
    (free_so (progress c.args.history.now.events) c.args.agenda.now c.args.task c.is_free.result true
    c.if-not-is_free.false c.is_free.ensures).0

pub standing-requires-clause-needs : goal.standing-requires-clause-needs
standing-requires-clause-needs g c =
    needs_done _ _ _ _ _ c.requires.kept.0 c.requires.kept.1 c.args.task
    (free_so (progress c.args.history.now.events) c.args.agenda.now c.args.task c.is_free.result true
    c.if-not-is_free.false c.is_free.ensures).1

pub standing-requires-clause-seen : goal.standing-requires-clause-seen
standing-requires-clause-seen g c = c.requires.kept.1.is_seen

pub standing-requires-clause-scopes : goal.standing-requires-clause-scopes
standing-requires-clause-scopes g c = c.requires.kept.1.scopes

pub returns-in_err-body-clause-kept : goal.returns-in_err-body-clause-kept
returns-in_err-body-clause-kept g c =
    λ seen k. kept_knowing _ _ _ _ _ seen k _ c.standing.ensures.seen c.standing.ensures.grows

pub returns-in-Ready-clause-kept : goal.returns-in-Ready-clause-kept
returns-in-Ready-clause-kept g c =
    λ seen k. kept_knowing _ _ _ _ _ seen k _ c.standing.ensures.seen c.standing.ensures.grows

pub returns-in-Ready-clause-looked : goal.returns-in-Ready-clause-looked
returns-in-Ready-clause-looked g c = (
  looked_ready (g.S.Standings.planned c.args.standings.now) (g.S.Standings.known c.standing.new.self)
      c.args.history.now.count c.args.history.now.events c.args.agenda.now c.requires.kept.0
      (kept_knowing _ _ _ _ _ c.requires.kept.0 c.requires.kept.1 _ c.standing.ensures.seen c.standing.ensures.grows)
      (g.S.Standings.noted c.standing.new.self) c.args.task c.in-Ready.body c.requires.unrefused
      (standing_so (g.S.Standings.planned c.args.standings.now) (progress c.args.history.now.events)
      (g.S.Standings.known c.standing.new.self) c.args.task c.in_ok-body.field-0 (Ready c.in-Ready.body) c.in-Ready.is
      c.in_ok-body.ensures.stands)
      (λ e. c.in_ok-body.ensures.entered
      (subst (λ (s : Standing). Enters (g.S.Standings.planned c.args.standings.now) c.args.task s) (sym c.in-Ready.is)
      e))
      (λ e. c.in_ok-body.ensures.noted
      (subst (λ (s : Standing). Leaves (g.S.Standings.planned c.args.standings.now) c.args.task s) (sym c.in-Ready.is)
      e)),
  refl,
)

pub put_off-requires-clause-task : goal.put_off-requires-clause-task
put_off-requires-clause-task g c =
    in_agenda _ _ _ _ _ c.requires.kept.0 c.requires.kept.1 c.args.task c.requires.within

pub put_off-requires-clause-other : goal.put_off-requires-clause-other
put_off-requires-clause-other g c =
    in_agenda _ _ _ _ _ c.requires.kept.0 c.requires.kept.1 c.in-Waits.other
    (awaited_within _ _ _ _ _ c.requires.kept.0
    (kept_knowing _ _ _ _ _ c.requires.kept.0 c.requires.kept.1 _ c.standing.ensures.seen c.standing.ensures.grows)
    c.args.task c.in-Waits.other
    (standing_so (g.S.Standings.planned c.args.standings.now) (progress c.args.history.now.events)
    (g.S.Standings.known c.standing.new.self) c.args.task c.in_ok-body.field-0 (Waits c.in-Waits.other) c.in-Waits.is
    c.in_ok-body.ensures.stands))

pub returns-in-Waits-clause-kept : goal.returns-in-Waits-clause-kept
returns-in-Waits-clause-kept g c =
    λ seen k. put_off_kept _ _ _ _ _ seen
    (kept_knowing _ _ _ _ _ seen k _ c.standing.ensures.seen c.standing.ensures.grows) c.args.task c.in-Waits.other
    (standing_so (g.S.Standings.planned c.args.standings.now) (progress c.args.history.now.events)
    (g.S.Standings.known c.standing.new.self) c.args.task c.in_ok-body.field-0 (Waits c.in-Waits.other) c.in-Waits.is
    c.in_ok-body.ensures.stands) _ c.put_off.result c.put_off.ensures

pub returns-in-Waits-clause-looked : goal.returns-in-Waits-clause-looked
returns-in-Waits-clause-looked g c =
    put_off_looked (g.S.Standings.planned c.args.standings.now) (progress c.args.history.now.events)
    (g.S.Standings.known c.standing.new.self) (g.S.Standings.noted c.standing.new.self) c.args.agenda.now
    c.put_off.new.agenda c.args.task c.in-Waits.other c.put_off.result c.put_off.ensures

pub returns-in-Stuck-clause-kept : goal.returns-in-Stuck-clause-kept
returns-in-Stuck-clause-kept g c =
    λ seen k. kept_stuck _ _ _ _ _ seen
    (kept_knowing _ _ _ _ _ seen k _ c.standing.ensures.seen c.standing.ensures.grows) _ c.args.task
    c.take_off-in-Stuck.ensures
    (standing_so (g.S.Standings.planned c.args.standings.now) (progress c.args.history.now.events)
    (g.S.Standings.known c.standing.new.self) c.args.task c.in_ok-body.field-0 Stuck c.in-Stuck.is
    c.in_ok-body.ensures.stands)

pub returns-in-Stuck-clause-looked : goal.returns-in-Stuck-clause-looked
returns-in-Stuck-clause-looked g c = off_of _ _ _ c.take_off-in-Stuck.ensures
