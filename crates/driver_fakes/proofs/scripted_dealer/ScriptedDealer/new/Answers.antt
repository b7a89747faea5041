use Rattle.std.proofs.Common.{◌∙◌, sym, ap}
use Rattle.driver_fakes.specs.Stages.{stage_at, stage_from, count_open, has_refusal}
use Rattle.driver_fakes.specs.declared.stage.Stage.TheVariants.{Waiting}
use Rattle.driver_fakes.proofs.StageLemmas.{waiting_at_first, none_open_at_first}
use Rattle.driver_fakes.proofs.scripted_dealer.ScriptedDealer.new.Goals as goal

pub invariant_of-result-clause-stages_are : goal.invariant_of-result-clause-stages_are
unfolding stage_from
invariant_of-result-clause-stages_are c = λ task.
    ap (λ s. stage_at s task) c.in-Ok.ensures ∙ waiting_at_first c.len.result task
    ∙ sym (ap (stage_from task Waiting) c.new.ensures.items)

pub invariant_of-result-clause-counted : goal.invariant_of-result-clause-counted
invariant_of-result-clause-counted c =
    sym (ap count_open c.in-Ok.ensures ∙ none_open_at_first c.len.result)

pub invariant_of-result-clause-refused_is : goal.invariant_of-result-clause-refused_is
unfolding has_refusal
invariant_of-result-clause-refused_is c = sym (ap has_refusal c.new.ensures.items)
