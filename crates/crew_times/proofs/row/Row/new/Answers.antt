use Rattle.std.proofs.Common.{◌∙◌, ap, sym, subst}
use Rattle.dealer_trait.specs.Steps.{NoneBegun}
use Rattle.driver_fakes.specs.Stages.{stage_at, stage_from, count_open}
use Rattle.driver_fakes.specs.declared.stage.Stage.TheVariants.{Waiting}
use Rattle.driver_fakes.proofs.StageLemmas.{waiting_at_first, none_open_at_first}
use Rattle.crew_times.proofs.RowLemmas.{no_steps, none_begun}
use Rattle.crew_times.proofs.row.Row.new.Goals as goal

pub invariant_of-result-clause-stages_are : goal.invariant_of-result-clause-stages_are
unfolding stage_from
invariant_of-result-clause-stages_are c = λ task.
    ap (λ s. stage_at s task) c.in-Ok.ensures ∙ waiting_at_first c.args.jobs task
    ∙ sym (ap (stage_from task Waiting) (no_steps _ c.in-Ok-with_capacity.ensures.items))

pub invariant_of-result-clause-counted : goal.invariant_of-result-clause-counted
invariant_of-result-clause-counted c = sym (ap count_open c.in-Ok.ensures ∙ none_open_at_first c.args.jobs)

pub invariant_of-result-clause-later : goal.invariant_of-result-clause-later
invariant_of-result-clause-later c = λ task low.
    ap (λ s. stage_at s task) c.in-Ok.ensures ∙ waiting_at_first c.args.jobs task

pub returns-in-Ok-with_capacity : goal.returns-in-Ok-with_capacity
returns-in-Ok-with_capacity c = subst NoneBegun (sym (no_steps _ c.in-Ok-with_capacity.ensures.items)) none_begun
