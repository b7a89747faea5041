use Rattle.std.proofs.Common.{sym, ap, ◌∙◌}
use Rattle.std.specs.Prelude.{bytes_eq, option_map}
use Rattle.arm_value.specs.Look.{fold, is_same_folded}
use Rattle.template_parts.specs.declared.given.BoundParameter.{BoundParameter}
use Rattle.plan_values.proofs.BoundLemmas.{first_found, first_later, first_nowhere}
use Rattle.point_cells.proofs.parameters.bound_to.Goals as goal

pub returns-then-equals_ignore_case : goal.returns-then-equals_ignore_case
returns-then-equals_ignore_case c =
    ap (option_map (λ (b : BoundParameter). b.value))
    (first_found (λ (b : BoundParameter). bytes_eq (fold c.args.name.now) (fold b.name))
    c.args.bound.now c.loop-parameter.parameter-index _ c.loop-parameter.invariant c.parameter-item.result
    c.loop-parameter-test.true
    c.parameter-item.is (sym (c.equals_ignore_case.ensures ∙ ap (λ s. is_same_folded s c.parameter-item.result.name)
    c.as_str.ensures.characters) ∙ c.if-equals_ignore_case.true))

pub loop-parameter-preserved : goal.loop-parameter-preserved
loop-parameter-preserved c =
    first_later (λ (b : BoundParameter). bytes_eq (fold c.args.name.now) (fold b.name))
    c.args.bound.now c.loop-parameter.parameter-index _ c.loop-parameter.invariant c.parameter-item.result
    c.loop-parameter-test.true
    c.parameter-item.is (sym (c.equals_ignore_case.ensures ∙ ap (λ s. is_same_folded s c.parameter-item.result.name)
    c.as_str.ensures.characters) ∙ c.if-equals_ignore_case.false)

pub returns : goal.returns
returns c =
    ap (option_map (λ (b : BoundParameter). b.value))
    (first_nowhere (λ (b : BoundParameter). bytes_eq (fold c.args.name.now) (fold b.name))
    c.args.bound.now c.loop-parameter.parameter-index _ c.loop-parameter.invariant c.loop-parameter-test.false)
