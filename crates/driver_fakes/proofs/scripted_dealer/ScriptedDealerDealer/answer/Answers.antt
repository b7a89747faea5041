use Rattle.std.proofs.Common.{◌∙◌, ◌∷◌, [], ◌||◌, length, arith, refl, ap, length-append, length-set, sym}
use Rattle.foundation.proofs.TruthValues.{or_turned}
use Rattle.dealer_trait.specs.Steps.{answered}
use Rattle.driver_fakes.specs.Stages.{stage_of, has_refusal, is_refused}
use Rattle.driver_fakes.specs.declared.stage.Stage.TheVariants.{Done}
use Rattle.driver_fakes.proofs.StageLemmas.{ending, stages_after, answer_sets, count_closed, done_after, open_not_done}
use Rattle.driver_fakes.proofs.StageLemmas.{has_refusal-push}
use Rattle.driver_fakes.proofs.scripted_dealer.ScriptedDealerDealer.answer.Goals as goal

pub push_step-requires : goal.push_step-requires
push_step-requires c =
    let d = c.args.self.now in
    let e = ending d.stages.items d.steps.items c.args.task c.requires.0 d.stages_are c.requires.1 in
    omega (arith, e.some, d.room, d.counted)

pub index_mut-requires : goal.index_mut-requires
index_mut-requires c =
    let d = c.args.self.now in
    let e = ending d.stages.items d.steps.items c.args.task c.requires.0 d.stages_are c.requires.1 in
    omega (arith, e.within)

pub overflow_sub-self : goal.overflow_sub-self
overflow_sub-self c =
    let d = c.args.self.now in
    let e = ending d.stages.items d.steps.items c.args.task c.requires.0 d.stages_are c.requires.1 in
    omega (arith, e.some, d.counted)

pub invariant_of-self-clause-stages_are : goal.invariant_of-self-clause-stages_are
invariant_of-self-clause-stages_are c =
    let d = c.args.self.now in
    let e = ending d.stages.items d.steps.items c.args.task c.requires.0 d.stages_are c.requires.1 in
    λ t. stages_after d.stages.items d.steps.items c.args.task Done (answered c.args.task c.args.answer)
    (answer_sets c.args.task c.args.answer) e.within d.stages_are t
    ∙ ap (stage_of t) (sym c.push_step.ensures.steps)

pub invariant_of-self-clause-counted : goal.invariant_of-self-clause-counted
invariant_of-self-clause-counted c =
    let d = c.args.self.now in
    let e = ending d.stages.items d.steps.items c.args.task c.requires.0 d.stages_are c.requires.1 in
    let closed = count_closed d.stages.items c.args.task Done e.within e.opens refl in
    omega (arith, closed, d.counted)

pub invariant_of-self-clause-room : goal.invariant_of-self-clause-room
invariant_of-self-clause-room c =
    let d = c.args.self.now in
    let e = ending d.stages.items d.steps.items c.args.task c.requires.0 d.stages_are c.requires.1 in
    omega (
      arith,
      e.some,
      d.room,
      d.counted,
      c.push_step.ensures.capacity,
      ap length c.push_step.ensures.steps,
      length-append d.steps.items (answered c.args.task c.args.answer ∷ []),
    )

pub invariant_of-self-clause-low_done : goal.invariant_of-self-clause-low_done
invariant_of-self-clause-low_done c =
    let d = c.args.self.now in
    let e = ending d.stages.items d.steps.items c.args.task c.requires.0 d.stages_are c.requires.1 in
    done_after d.stages.items c.args.task d.low Done e.within (open_not_done _ e.opens) d.low_done

pub invariant_of-self-clause-refused_is : goal.invariant_of-self-clause-refused_is
invariant_of-self-clause-refused_is c =
    let d = c.args.self.now in
    c.has_refused-self.ensures ∙ ap (λ b. is_refused c.args.answer || b) d.refused_is
    ∙ or_turned (is_refused c.args.answer) (has_refusal d.steps.items)
    ∙ sym (ap has_refusal c.push_step.ensures.steps
    ∙ has_refusal-push d.steps.items (answered c.args.task c.args.answer))

pub invariant_of-self-clause-sizes : goal.invariant_of-self-clause-sizes
invariant_of-self-clause-sizes c =
    let d = c.args.self.now in length-set d.stages.items c.args.task Done ∙ d.sizes

pub invariant_of-self-clause-low_within : goal.invariant_of-self-clause-low_within
invariant_of-self-clause-low_within c =
    let d = c.args.self.now in omega (arith, length-set d.stages.items c.args.task Done, d.low_within)
