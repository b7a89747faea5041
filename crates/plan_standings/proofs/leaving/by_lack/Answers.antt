use Rattle.plan_standings.proofs.LeaveLemmas.{look_by}
use Rattle.plan_standings.proofs.leaving.by_lack.Goals as goal

pub returns-in-Ok-Some-clause-look : goal.returns-in-Ok-Some-clause-look
returns-in-Ok-Some-clause-look c = λ f u there next b.
    look_by c.args.plan.now c.args.held.now c.args.numbers.now c.args.history.now.events c.args.later.now
    c.requires.point f there u next c.answer_lack.new.later
    c.in-Ok-Some.field-0 c.in-Ok-Some.standing c.in-Ok-Some.field-0-is (c.in-Ok-Some.ensures.answered u _ b)
