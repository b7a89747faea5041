use Rattle.std.proofs.Common.{◌≡◌, ◌<◌, ◌∙◌, ◌++◌, ◌∷◌, [], Some, arith, ap, sym, length, length-set}
use Rattle.std.proofs.lemmas.Option.{slice_get-get_or}
use Rattle.provider_trait.specs.Work.{Work}
use Rattle.dealer_trait.specs.Steps.{begin}
use Rattle.driver_fakes.specs.ScriptedDealers.{hand_of}
use Rattle.driver_fakes.specs.Stages.{stage_of, has_refusal}
use Rattle.driver_fakes.specs.declared.stage.Stage.TheVariants.{Open}
use Rattle.driver_fakes.proofs.DealingLemmas.{waits}
use Rattle.driver_fakes.proofs.StageLemmas.{stages_after, begin_sets, count_begun, done_after, waiting_not_done}
use Rattle.driver_fakes.proofs.StageLemmas.{has_refusal-push}
use Rattle.driver_fakes.proofs.scripted_dealer.ScriptedDealer.begin.Goals as goal
use Rattle.foundation.proofs.TruthValues.{or_false}

pub invariant_of-self-clause-stages_are : goal.invariant_of-self-clause-stages_are
invariant_of-self-clause-stages_are c =
    let d = c.args.self.now in
    let within : c.args.task < length d.stages.items = omega (arith, c.requires.within, d.sizes) in
    let its : c.in-Ok.copy.task ≡ c.args.task = ap (λ (j : Work). j.task) (c.in-Ok.ensures ∙ c.in_ok-job.ensures) in
    λ t. stages_after d.stages.items d.steps.items c.args.task Open (begin c.in-Ok.copy)
    (begin_sets c.in-Ok.copy c.args.task its) within d.stages_are t
    ∙ ap (stage_of t) (sym c.in-Ok-push_begin.ensures.steps)

pub invariant_of-self-clause-sizes : goal.invariant_of-self-clause-sizes
invariant_of-self-clause-sizes c =
    let d = c.args.self.now in length-set d.stages.items c.args.task Open ∙ d.sizes

pub invariant_of-self-clause-counted : goal.invariant_of-self-clause-counted
invariant_of-self-clause-counted c =
    let d = c.args.self.now in
    let within : c.args.task < length d.stages.items = omega (arith, c.requires.within, d.sizes) in
    let free = waits (hand_of d) d.stages.items d.low d.stages_are d.sizes d.low_done c.args.task c.requires.ready in
    omega (arith, count_begun d.stages.items c.args.task within free, d.counted)

pub invariant_of-self-clause-low_within : goal.invariant_of-self-clause-low_within
invariant_of-self-clause-low_within c =
    let d = c.args.self.now in omega (arith, length-set d.stages.items c.args.task Open, d.low_within)

pub invariant_of-self-clause-low_done : goal.invariant_of-self-clause-low_done
invariant_of-self-clause-low_done c =
    let d = c.args.self.now in
    let within : c.args.task < length d.stages.items = omega (arith, c.requires.within, d.sizes) in
    let free = waits (hand_of d) d.stages.items d.low d.stages_are d.sizes d.low_done c.args.task c.requires.ready in
    done_after d.stages.items c.args.task d.low Open within (waiting_not_done _ free) d.low_done

pub invariant_of-self-clause-refused_is : goal.invariant_of-self-clause-refused_is
invariant_of-self-clause-refused_is c =
    let d = c.args.self.now in
    d.refused_is
    ∙ sym (ap has_refusal c.in-Ok-push_begin.ensures.steps
    ∙ has_refusal-push d.steps.items (begin c.in-Ok.copy) ∙ or_false (has_refusal d.steps.items))

pub returns-in-Ok-push_begin : goal.returns-in-Ok-push_begin
returns-in-Ok-push_begin c =
    let d = c.args.self.now in
    let here = slice_get-get_or d.jobs.items c.args.task c.index.result.now c.requires.within
    ∙ ap Some (sym c.index.ensures) in
    let steps = c.in-Ok-push_begin.ensures.steps
    ∙ ap (λ (j : Work). d.steps.items ++ begin j ∷ []) c.in-Ok.ensures in (
      (c.index.result.now, here, c.in_ok-job.ensures),
      (λ i. record { jobs = d.jobs.items; needs = d.needs.items; steps = steps i }),
    )
