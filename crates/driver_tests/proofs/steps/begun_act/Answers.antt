use Rattle.std.proofs.Common.{◌≡◌, ◌∙◌, ◌++◌, ◌∷◌, [], None, take, refl, sym, ap, length}
use Rattle.std.proofs.lemmas.List.{take_more, take_all}
use Rattle.dealer_trait.specs.Steps.{begun, begun_from}
use Rattle.driver_tests.specs.Begun.{act_of}
use Rattle.driver_tests.proofs.BegunLemmas.{begun_from-push}
use Rattle.driver_tests.proofs.steps.begun_act.Goals as goal

pub loop-step-init : goal.loop-step-init
unfolding begun_from
loop-step-init c = refl

pub loop-step-preserved : goal.loop-step-preserved
loop-step-preserved c =
    let xs = c.args.steps.now in
    let i = c.loop-step.step-index in
    let x = c.step-item.result in
    c.act_after-act.ensures (begun c.args.task (take i xs)) c.loop-step.invariant
    ∙ ap act_of (sym (ap (begun_from c.args.task None) (take_more xs i x c.loop-step-test.true
    ∙ ap (λ s. take i xs ++ s ∷ []) (sym c.step-item.is)) ∙ begun_from-push c.args.task None (take i xs) x))
