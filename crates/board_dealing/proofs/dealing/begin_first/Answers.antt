use Rattle.std.proofs.Common.{refl, sym, length}
use Rattle.arm_value.specs.View.{json}
use Rattle.deploy_histories.specs.Events.{progress}
use Rattle.board_dealing.proofs.DealLemmas.{deal_started, paused_next, none_listed, act_found, no_act_left}
use Rattle.board_dealing.proofs.Pausing.{none_may_begin, has_ended}
use Rattle.board_dealing.proofs.PassLemmas.{kept_of, goes_of}
use Rattle.board_dealing.proofs.dealing.begin_first.Goals as goal

pub ready_act-requires-clause-kept : goal.ready_act-requires-clause-kept
ready_act-requires-clause-kept g c = (length c.args.history.now.events, c.requires.kept)

pub returns-in_err-task-clause-kept : goal.returns-in_err-task-clause-kept
returns-in_err-task-clause-kept g c = λ seen k. c.ready_act.ensures.kept seen k

pub start-requires-clause-kept : goal.start-requires-clause-kept
start-requires-clause-kept g c = (
  length c.args.history.now.events,
  kept_of (g.S.Standings.planned c.args.standings.now) (g.S.Standings.planned c.ready_act.new.standings)
      (g.S.Standings.known c.ready_act.new.standings) c.args.history.now.count c.args.history.now.events
      c.ready_act.new.agenda (length c.args.history.now.events) c.ready_act.ensures.planned
      (c.ready_act.ensures.kept (length c.args.history.now.events) c.requires.kept),
)

pub start-requires-clause-ready : goal.start-requires-clause-ready
start-requires-clause-ready g c =
    (act_found (g.S.Standings.planned c.ready_act.new.standings) (g.S.Standings.planned c.args.standings.now)
    (progress c.args.history.now.events) c.args.agenda.now c.ready_act.new.agenda
    c.in_ok-task.field-0 c.in-Some.task c.in-Some.body (sym c.ready_act.ensures.planned) c.in-Some.is
    c.in_ok-task.ensures.ready).1

pub start-requires-clause-act : goal.start-requires-clause-act
start-requires-clause-act g c =
    (act_found (g.S.Standings.planned c.ready_act.new.standings) (g.S.Standings.planned c.args.standings.now)
    (progress c.args.history.now.events) c.args.agenda.now c.ready_act.new.agenda
    c.in_ok-task.field-0 c.in-Some.task c.in-Some.body (sym c.ready_act.ensures.planned) c.in-Some.is
    c.in_ok-task.ensures.ready).0

pub returns-in-Some-clause-kept : goal.returns-in-Some-clause-kept
returns-in-Some-clause-kept g c =
    λ seen k. goes_of (g.S.Standings.planned c.args.standings.now) (g.S.Standings.planned c.ready_act.new.standings)
    (g.S.Standings.known c.ready_act.new.standings) (g.S.Standings.known c.ready_act.new.standings)
    c.args.history.now c.start.new.history c.ready_act.new.agenda c.ready_act.new.agenda seen
    c.ready_act.ensures.planned c.start.ensures.kept (c.ready_act.ensures.kept seen k)

pub returns-in-Some-clause-next : goal.returns-in-Some-clause-next
returns-in-Some-clause-next g c =
    λ before s. deal_started (g.S.Standings.planned c.args.standings.now)
    (g.S.Standings.planned c.ready_act.new.standings) before c.args.history.now.events c.start.new.history.events
    c.in-Some.task c.args.worker (json c.in-Some.body) c.start.result c.ready_act.ensures.planned s
    c.start.ensures.begun

pub returns-in-None-clause-kept : goal.returns-in-None-clause-kept
returns-in-None-clause-kept g c = λ seen k. c.ready_act.ensures.kept seen k

pub returns-in-None-clause-next : goal.returns-in-None-clause-next
returns-in-None-clause-next g c =
    let left = no_act_left (g.S.Standings.planned c.args.standings.now) (progress c.args.history.now.events)
    c.args.agenda.now c.ready_act.new.agenda c.in_ok-task.field-0 c.in-None.is c.in_ok-task.ensures.ready in
    let none = none_listed c.ready_act.new.agenda (left.1 c.requires.none) left.0 in
    let k = c.ready_act.ensures.kept (length c.args.history.now.events) c.requires.kept in
    λ before s. paused_next (g.S.Standings.planned c.args.standings.now) before c.args.worker c.pause.result
    c.args.history.now.events s c.pause.ensures
    (none_may_begin (g.S.Standings.planned c.args.standings.now) (g.S.Standings.known c.ready_act.new.standings)
    c.args.history.now.count c.args.history.now.events c.ready_act.new.agenda (length c.args.history.now.events) k refl
    none)
    (has_ended (g.S.Standings.planned c.args.standings.now) (g.S.Standings.known c.ready_act.new.standings)
    c.args.history.now.count c.args.history.now.events c.ready_act.new.agenda (length c.args.history.now.events) k refl
    none)
