use Rattle.std.proofs.Common.{ℕ, List, Ok, sym, ap, subst, ◌∙◌}
use Rattle.std.specs.Prelude.{IfOk}
use Rattle.provider_trait.specs.declared.answer.Answer.TheVariants.{Stored}
use Rattle.deploy_histories.specs.Planned.{Planned}
use Rattle.deploy_histories.specs.Events.{Event, progress}
use Rattle.deploy_histories.specs.Legal.{MayEnd}
use Rattle.board_dealing.specs.Boards.{IsNext}
use Rattle.given_plans.specs.Given.{planned_of}
use Rattle.given_plans.proofs.OpenLemmas.{just_begun}
use Rattle.board_times.proofs.step.Goals as goal

pub answer-requires : goal.answer-requires
answer-requires c =
    let given = c.args.board.now.0 in
    let old : List Event = c.args.board.now.1.events in
    let new : List Event = c.next.new.self.1.events in
    let asked = subst (λ r. IfOk r (λ n. IsNext (planned_of given) old 0 n new))
    (c.in-Ok-Begun.is ∙ ap (λ n. Ok n) c.in-Ok-Begun.field-0-is) c.next.ensures.next in
    subst (λ (x : Planned). MayEnd x (progress new) c.task-task.result (Stored c.in-Some.state))
    (sym c.next.ensures.planned)
    (subst (λ (u : ℕ). MayEnd (planned_of given) (progress new) u (Stored c.in-Some.state)) (sym c.task-task.ensures)
    (just_begun given old 0 c.in-Ok-Begun.job new asked c.next.ensures.legal (Stored c.in-Some.state) tt))
