use Rattle.std.proofs.Common.{◌≡◌, ◌∙◌, Some, ap, sym, rules}
use Rattle.provider_trait.specs.declared.act.Act.TheVariants.{Put, Delete}
use Rattle.dealer_trait.specs.Steps.{begun}
use Rattle.driver_tests.specs.Begun.{act_of}
use Rattle.driver_tests.proofs.BegunLemmas.{begun_as, suits_refused, suits_gone}
use Rattle.driver_tests.proofs.steps.finish.Goals as goal

pub answer-requires : goal.answer-requires
answer-requires c =
    let found : c.begun_act.result ≡ Some Put = search rules in
    let w = begun_as (begun c.args.task c.args.dealer.now.steps.items) Put
    (ap (λ s. act_of (begun c.args.task s)) (sym c.steps.ensures) ∙ sym c.begun_act.ensures ∙ found) in
    (w.job, w.is, suits_refused w.job.act _)

pub answer-requires-in-Some-Delete : goal.answer-requires-in-Some-Delete
answer-requires-in-Some-Delete c =
    let found : c.begun_act.result ≡ Some Delete = search rules in
    let w = begun_as (begun c.args.task c.args.dealer.now.steps.items) Delete
    (ap (λ s. act_of (begun c.args.task s)) (sym c.steps.ensures) ∙ sym c.begun_act.ensures ∙ found) in
    (w.job, w.is, suits_gone w.job.act w.act_is)
