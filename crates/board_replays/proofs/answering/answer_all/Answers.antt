use Rattle.std.proofs.Common.{refl, ap, ◌∙◌}
use Rattle.std.proofs.lemmas.Iterator.Adapters.{YieldsList-from_vec}
use Rattle.std.proofs.lemmas.Iterator.Consumers.{YieldsList-turn, YieldsList-end}
use Rattle.deploy_histories.specs.Events.{progress}
use Rattle.board_history.specs.Past.{Past}
use Rattle.board_replays.proofs.LateLemmas.{may_come, open_then, events_then, events_end}
use Rattle.board_replays.proofs.answering.answer_all.Goals as goal

pub take-requires-clause-may : goal.take-requires-clause-may
take-requires-clause-may g c =
    let gives = c.into_iter-task-iterator.ensures.into_iter_gives in
    let at = YieldsList-turn (YieldsList-from_vec c.args.late.items gives.0 (gives.1 ∙ c.args.late.ok.0))
    c.loop-task.yielded c.loop-task.task-iterator c.loop-task.yielded_by c.next.result c.next.new.self
    (c.in-Some.task, c.in-Some.answer) c.in-Some.is c.next.ensures.steps in
    may_come c.args.late.items c.loop-task.yielded (c.in-Some.task, c.in-Some.answer) at.0 at.1
    (g.S.Standings.planned c.args.standings.now) (progress c.loop-task.history.events) c.loop-task.invariant.may

pub take-requires-clause-kept : goal.take-requires-clause-kept
take-requires-clause-kept g c =
    (c.requires.kept.0, c.loop-task.invariant.kept c.requires.kept.0 c.requires.kept.1)

pub loop-task-init : goal.loop-task-init
loop-task-init g c = record { may = c.requires.may; kept = λ seen k. k; events = refl }

pub loop-task-preserved : goal.loop-task-preserved
loop-task-preserved g c =
    let gives = c.into_iter-task-iterator.ensures.into_iter_gives in
    let at = YieldsList-turn (YieldsList-from_vec c.args.late.items gives.0 (gives.1 ∙ c.args.late.ok.0))
    c.loop-task.yielded c.loop-task.task-iterator c.loop-task.yielded_by c.next.result c.next.new.self
    (c.in-Some.task, c.in-Some.answer) c.in-Some.is c.next.ensures.steps in
    let now = ap (λ (p : Past). p.events) c.take.ensures.history in
    record {
      may = open_then c.args.late.items c.loop-task.yielded (c.in-Some.task, c.in-Some.answer) at.0 at.1
          (g.S.Standings.planned c.args.standings.now) c.loop-task.history.events c.take.new.history.events now
          c.loop-task.invariant.may;
      kept = λ seen k. c.take.ensures.kept seen (c.loop-task.invariant.kept seen k);
      events = events_then c.args.late.items c.loop-task.yielded (c.in-Some.task, c.in-Some.answer) at.0 at.1
          _ c.loop-task.history.events c.take.new.history.events now c.loop-task.invariant.events;
    }

pub returns-clause-kept : goal.returns-clause-kept
returns-clause-kept g c = c.loop-task.invariant.kept

pub returns-clause-history : goal.returns-clause-history
returns-clause-history g c =
    let gives = c.into_iter-task-iterator.ensures.into_iter_gives in
    let whole = YieldsList-end (YieldsList-from_vec c.args.late.items gives.0 (gives.1 ∙ c.args.late.ok.0))
    c.loop-task.yielded c.loop-task.task-iterator c.loop-task.yielded_by c.next.result c.next.new.self c.in-None.is
    c.next.ensures.steps in
    events_end c.args.late.items c.loop-task.yielded _ c.loop-task.history.events whole.1 c.loop-task.invariant.events
