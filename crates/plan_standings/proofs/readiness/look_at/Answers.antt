use Rattle.std.proofs.Common.{refl}
use Rattle.plan_standings.proofs.StateLemmas.{nothing_more}
use Rattle.plan_standings.proofs.PutLemmas.{complete, not_lacking, is_task, body_lacks, body_stands, look_by}
use Rattle.plan_standings.proofs.PutLemmas.{bodyless_by}
use Rattle.plan_standings.specs.Waits.{table_of}
use Rattle.plan_standings.proofs.readiness.look_at.Goals as goal

pub told_of_body-requires-clause-complete : goal.told_of_body-requires-clause-complete
told_of_body-requires-clause-complete c =
    complete c.args.plan.now c.args.held.now c.requires.point.under_way.is_planned

pub returns-in-Ok-clause-states : goal.returns-in-Ok-clause-states
returns-in-Ok-clause-states c =
    nothing_more c.args.plan.now c.args.held.now c.args.numbers.now c.args.history.now.events c.args.later.now
    c.args.later.now c.requires.point refl

pub returns-in-Ok-clause-look : goal.returns-in-Ok-clause-look
returns-in-Ok-clause-look c = λ u next.
    record {
      task = _;
      is_task = is_task c.args.plan.now c.args.held.now c.args.numbers.now c.args.history.now.events c.args.later.now
          c.requires.point c.args.frame c.args.instance c.requires.put u next;
      stands_as = body_stands c.args.plan.now c.args.held.now c.args.numbers.now c.args.history.now.events
          c.args.later.now c.requires.point c.args.frame c.args.instance c.requires.put u next c.in-Ok.body
          c.in-Ok.ensures c.seen_tasks_are_ready.ensures;
    }

pub answer_lack-requires-clause-there : goal.answer_lack-requires-clause-there
answer_lack-requires-clause-there c =
    let g = c.args.plan.now in
    not_lacking (table_of g) c.args.later.now c.args.frame c.args.instance.resource c.args.instance.copy
    (complete g c.args.held.now c.requires.point.under_way.is_planned).ready c.requires.put c.in-Err.lack
    c.in-Err.ensures

pub returns-in-Err-clause-look : goal.returns-in-Err-clause-look
returns-in-Err-clause-look c = λ u next.
    let g = c.args.plan.now in
    look_by g c.args.held.now c.args.numbers.now c.args.history.now.events c.args.later.now c.requires.point
    c.args.frame c.args.instance c.requires.put u next c.answer_lack.new.later c.answer_lack.result
    (c.answer_lack.ensures.answered u _
    (body_lacks g c.args.held.now c.args.numbers.now c.args.history.now.events c.args.later.now c.requires.point
    c.args.frame c.args.instance c.requires.put u next c.in-Err.lack c.in-Err.ensures))

pub returns-in-Ok-clause-stuck : goal.returns-in-Ok-clause-stuck
returns-in-Ok-clause-stuck c = λ e. absurd (cc)

pub returns-in-Err-clause-stuck : goal.returns-in-Err-clause-stuck
returns-in-Err-clause-stuck c =
    bodyless_by c.args.plan.now c.args.later.now c.answer_lack.new.later c.args.frame c.args.instance
    c.answer_lack.ensures.states.grows c.answer_lack.result c.in-Err.lack c.in-Err.ensures c.answer_lack.ensures.stuck
