use Rattle.std.proofs.Common.{List, ap, sym, ◌∙◌}
use Rattle.deploy_histories.specs.Events.{Event, progress}
use Rattle.given_plans.specs.Given.{planned_of}
use Rattle.given_plans.specs.Open.{is_open_now}
use Rattle.given_plans.proofs.OpenLemmas.{is_begun_now}
use Rattle.sample_boards.proofs.following.give_back.Goals as goal

pub back-requires : goal.back-requires
back-requires c =
    is_begun_now (planned_of c.args.board.now.0) (progress c.args.board.now.1.events) c.args.task
    (ap (λ (h : List Event). is_open_now (progress h) c.args.task) (sym c.history.ensures.events)
    ∙ sym c.is_open.ensures ∙ c.if-not-is_open.false)
