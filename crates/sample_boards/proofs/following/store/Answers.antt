use Rattle.std.proofs.Common.{List, ap, sym, ◌∙◌}
use Rattle.provider_trait.specs.declared.answer.Answer.TheVariants.{Stored}
use Rattle.deploy_histories.specs.Events.{Event, progress}
use Rattle.given_plans.specs.Open.{is_open_now}
use Rattle.given_plans.proofs.OpenLemmas.{may_answer}
use Rattle.sample_boards.proofs.following.store.Goals as goal

pub answer-requires : goal.answer-requires
answer-requires c =
    may_answer c.args.board.now.0 c.args.board.now.1.events c.history.ensures.legal c.args.task
    (ap (λ (h : List Event). is_open_now (progress h) c.args.task) (sym c.history.ensures.events)
    ∙ sym c.is_open.ensures ∙ c.if-not-is_open.false) (Stored _) tt
