use Rattle.std.proofs.Common.{refl, ◌∙◌}
use Rattle.arm_value.specs.Json.{null}
use Rattle.deploy_histories.specs.Events as event
use Rattle.deploy_histories.specs.Events.{progress}
use Rattle.board_dealing.proofs.Happening.{entered, left}
use Rattle.board_dealing.proofs.PassLemmas.{kind_is, may_enter, may_leave, noted_for, entered_for}
use Rattle.board_dealing.proofs.PassLemmas.{ready_waits, ready_within, seen_after, pass_on, pass_one, pass_fewer}
use Rattle.board_dealing.proofs.PassLemmas.{refusal_still, pass_in, in_history, in_agenda_of, grows_still}
use Rattle.board_dealing.proofs.passing.pass.Goals as goal

pub kind-requires-clause-within : goal.kind-requires-clause-within
kind-requires-clause-within g c =
    ready_within (g.S.Standings.planned c.args.standings.now) (progress c.args.history.now.events) c.args.task null
    c.requires.ready

pub enter-requires-clause-within : goal.enter-requires-clause-within
enter-requires-clause-within g c =
    in_history (g.S.Standings.planned c.args.standings.now) (g.S.Standings.known c.args.standings.now)
    c.args.history.now.count c.args.history.now.events c.args.agenda.now c.requires.kept c.args.task (ready_within
    (g.S.Standings.planned c.args.standings.now) (progress c.args.history.now.events) c.args.task null c.requires.ready)

pub enter-requires-clause-waits : goal.enter-requires-clause-waits
enter-requires-clause-waits g c =
    ready_waits (g.S.Standings.planned c.args.standings.now) (progress c.args.history.now.events) c.args.task null
    c.requires.ready

pub enter-requires-clause-known : goal.enter-requires-clause-known
enter-requires-clause-known g c =
    in_agenda_of (g.S.Standings.planned c.args.standings.now) (g.S.Standings.known c.args.standings.now)
    c.args.history.now.count c.args.history.now.events c.args.agenda.now c.requires.kept c.args.task (ready_within
    (g.S.Standings.planned c.args.standings.now) (progress c.args.history.now.events) c.args.task null c.requires.ready)

pub leave-requires-clause-within : goal.leave-requires-clause-within
leave-requires-clause-within g c =
    in_history (g.S.Standings.planned c.args.standings.now) (g.S.Standings.known c.args.standings.now)
    c.args.history.now.count c.args.history.now.events c.args.agenda.now c.requires.kept c.args.task (ready_within
    (g.S.Standings.planned c.args.standings.now) (progress c.args.history.now.events) c.args.task null c.requires.ready)

pub leave-requires-clause-waits : goal.leave-requires-clause-waits
leave-requires-clause-waits g c =
    ready_waits (g.S.Standings.planned c.args.standings.now) (progress c.args.history.now.events) c.args.task null
    c.requires.ready

pub leave-requires-clause-known : goal.leave-requires-clause-known
leave-requires-clause-known g c =
    in_agenda_of (g.S.Standings.planned c.args.standings.now) (g.S.Standings.known c.args.standings.now)
    c.args.history.now.count c.args.history.now.events c.args.agenda.now c.requires.kept c.args.task (ready_within
    (g.S.Standings.planned c.args.standings.now) (progress c.args.history.now.events) c.args.task null c.requires.ready)

pub leave-requires-clause-noted : goal.leave-requires-clause-noted
leave-requires-clause-noted g c =
    noted_for (g.S.Standings.planned c.args.standings.now) (progress c.args.history.now.events) c.args.task
    c.requires.ready (g.S.Standings.known c.args.standings.now) (g.S.Standings.noted c.args.standings.now)
    c.requires.prepared
    (kind_is (g.S.Standings.planned c.args.standings.now) c.args.task c.requires.ready.of c.kind.result
    c.requires.ready.may_start.is_task c.kind.ensures ∙ c.in-Leave.is)

pub leave-requires-clause-seen : goal.leave-requires-clause-seen
leave-requires-clause-seen g c =
    seen_after (g.S.Standings.planned c.args.standings.now) c.args.history.now.events (g.S.Standings.known
    c.args.standings.now) c.seen_stays.ensures c.requires.kept.1.is_seen (event.leave c.args.task)
    (may_leave (g.S.Standings.planned c.args.standings.now) (progress c.args.history.now.events) c.args.task
    c.requires.ready
    (kind_is (g.S.Standings.planned c.args.standings.now) c.args.task c.requires.ready.of c.kind.result
    c.requires.ready.may_start.is_task c.kind.ensures ∙ c.in-Leave.is))

pub returns-in-Enter-clause-kept : goal.returns-in-Enter-clause-kept
returns-in-Enter-clause-kept g c =
    pass_in (g.S.Standings.planned c.args.standings.now) (g.S.Standings.known c.args.standings.now) c.args.history.now
    c.enter.new.history c.args.agenda.now c.enter.new.agenda c.args.task c.enter.result c.enter.ensures
    (may_enter (g.S.Standings.planned c.args.standings.now) (progress c.args.history.now.events) c.args.task
    c.requires.ready
    (kind_is (g.S.Standings.planned c.args.standings.now) c.args.task c.requires.ready.of c.kind.result
    c.requires.ready.may_start.is_task c.kind.ensures ∙ c.in-Enter.is))
    (ready_within (g.S.Standings.planned c.args.standings.now) (progress c.args.history.now.events) c.args.task null
    c.requires.ready)
    (seen_after (g.S.Standings.planned c.args.standings.now) c.args.history.now.events (g.S.Standings.known
    c.args.standings.now) c.seen_stays.ensures c.requires.kept.1.is_seen (event.enter c.args.task)
    (may_enter (g.S.Standings.planned c.args.standings.now) (progress c.args.history.now.events) c.args.task
    c.requires.ready
    (kind_is (g.S.Standings.planned c.args.standings.now) c.args.task c.requires.ready.of c.kind.result
    c.requires.ready.may_start.is_task c.kind.ensures ∙ c.in-Enter.is)))
    (grows_still (g.S.Standings.known c.args.standings.now))
    (entered_for (g.S.Standings.planned c.args.standings.now) (progress c.args.history.now.events) c.args.task
    c.requires.ready (g.S.Standings.known c.args.standings.now) (g.S.Standings.noted c.args.standings.now)
    c.requires.prepared
    (kind_is (g.S.Standings.planned c.args.standings.now) c.args.task c.requires.ready.of c.kind.result
    c.requires.ready.may_start.is_task c.kind.ensures ∙ c.in-Enter.is))

pub returns-in-Enter-clause-passed : goal.returns-in-Enter-clause-passed
returns-in-Enter-clause-passed g c =
    pass_one (g.S.Standings.planned c.args.standings.now) c.args.history.now c.enter.new.history c.args.agenda.now
    c.enter.new.agenda c.args.task (event.enter c.args.task) c.enter.result c.enter.ensures refl
    (may_enter (g.S.Standings.planned c.args.standings.now) (progress c.args.history.now.events) c.args.task
    c.requires.ready
    (kind_is (g.S.Standings.planned c.args.standings.now) c.args.task c.requires.ready.of c.kind.result
    c.requires.ready.may_start.is_task c.kind.ensures ∙ c.in-Enter.is))

pub returns-in-Enter-clause-refusal : goal.returns-in-Enter-clause-refusal
returns-in-Enter-clause-refusal g c =
    refusal_still c.args.history.now c.enter.new.history c.args.agenda.now c.enter.new.agenda c.args.task (event.enter
    c.args.task) c.enter.result c.enter.ensures refl

pub returns-in-Enter-clause-fewer : goal.returns-in-Enter-clause-fewer
returns-in-Enter-clause-fewer g c =
    pass_fewer (g.S.Standings.planned c.args.standings.now) c.args.history.now c.enter.new.history c.args.agenda.now
    c.enter.new.agenda c.args.task (event.enter c.args.task) c.enter.result c.enter.ensures
    (entered c.args.history.now.events c.args.task) (ready_waits (g.S.Standings.planned c.args.standings.now) (progress
    c.args.history.now.events) c.args.task null c.requires.ready) (ready_within (g.S.Standings.planned
    c.args.standings.now) (progress c.args.history.now.events) c.args.task null c.requires.ready)

pub returns-in-Leave-clause-passed : goal.returns-in-Leave-clause-passed
returns-in-Leave-clause-passed g c =
    pass_one (g.S.Standings.planned c.args.standings.now) c.args.history.now c.leave.new.history c.args.agenda.now
    c.leave.new.agenda c.args.task (event.leave c.args.task) c.leave.result c.leave.ensures.history refl
    (may_leave (g.S.Standings.planned c.args.standings.now) (progress c.args.history.now.events) c.args.task
    c.requires.ready
    (kind_is (g.S.Standings.planned c.args.standings.now) c.args.task c.requires.ready.of c.kind.result
    c.requires.ready.may_start.is_task c.kind.ensures ∙ c.in-Leave.is))

pub returns-in-Leave-clause-refusal : goal.returns-in-Leave-clause-refusal
returns-in-Leave-clause-refusal g c =
    refusal_still c.args.history.now c.leave.new.history c.args.agenda.now c.leave.new.agenda c.args.task (event.leave
    c.args.task) c.leave.result c.leave.ensures.history refl

pub returns-in-Leave-clause-fewer : goal.returns-in-Leave-clause-fewer
returns-in-Leave-clause-fewer g c =
    pass_fewer (g.S.Standings.planned c.args.standings.now) c.args.history.now c.leave.new.history c.args.agenda.now
    c.leave.new.agenda c.args.task (event.leave c.args.task) c.leave.result c.leave.ensures.history
    (left c.args.history.now.events c.args.task) (ready_waits (g.S.Standings.planned c.args.standings.now) (progress
    c.args.history.now.events) c.args.task null c.requires.ready) (ready_within (g.S.Standings.planned
    c.args.standings.now) (progress c.args.history.now.events) c.args.task null c.requires.ready)

pub returns-in-Leave-clause-kept : goal.returns-in-Leave-clause-kept
returns-in-Leave-clause-kept g c =
    pass_on (g.S.Standings.planned c.args.standings.now) (g.S.Standings.known c.args.standings.now)
    (g.S.Standings.known c.leave.new.standings) c.args.history.now c.leave.new.history c.args.agenda.now
    c.leave.new.agenda c.args.task (event.leave c.args.task)
    c.leave.result c.leave.ensures.history
    (may_leave (g.S.Standings.planned c.args.standings.now) (progress c.args.history.now.events) c.args.task
    c.requires.ready
    (kind_is (g.S.Standings.planned c.args.standings.now) c.args.task c.requires.ready.of c.kind.result
    c.requires.ready.may_start.is_task c.kind.ensures ∙ c.in-Leave.is))
    (left c.args.history.now.events c.args.task) (ready_within (g.S.Standings.planned c.args.standings.now) (progress
    c.args.history.now.events) c.args.task null c.requires.ready) c.leave.ensures.seen
    c.leave.ensures.grows c.leave.ensures.left c.leave.ensures.known
