use Rattle.std.proofs.Common.{◌≡◌, ◌∙◌, Some, ap, sym, rules}
use Rattle.dealer_trait.specs.Steps.{begun}
use Rattle.driver_tests.specs.Begun.{act_of}
use Rattle.driver_tests.proofs.BegunLemmas.{begun_as}
use Rattle.driver_tests.proofs.steps.give_back.Goals as goal

pub back-requires : goal.back-requires
back-requires c =
    let w = begun_as (begun c.args.task c.args.dealer.now.steps.items) c.in-Some.field-0
    (ap (λ s. act_of (begun c.args.task s)) (sym c.steps.ensures) ∙ sym c.begun_act.ensures ∙ c.in-Some.is) in
    (w.job, w.is)
