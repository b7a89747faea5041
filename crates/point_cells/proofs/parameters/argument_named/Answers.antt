use Rattle.std.proofs.Common.{sym, ap, ◌∙◌}
use Rattle.std.specs.Prelude.{bytes_eq}
use Rattle.arm_value.specs.Look.{fold, is_same_folded}
use Rattle.template_parts.specs.declared.content.Argument.{Argument}
use Rattle.plan_values.proofs.BoundLemmas.{first_found, first_later, first_nowhere}
use Rattle.point_cells.proofs.parameters.argument_named.Goals as goal

pub returns-then-equals_ignore_case : goal.returns-then-equals_ignore_case
returns-then-equals_ignore_case c =
    first_found (λ (a : Argument). bytes_eq (fold c.args.name.now) (fold a.name))
    c.args.arguments.now c.loop-argument.argument-index _ c.loop-argument.invariant c.argument-item.result
    c.loop-argument-test.true
    c.argument-item.is (sym (c.equals_ignore_case.ensures ∙ ap (λ s. is_same_folded s c.argument-item.result.name)
    c.as_str.ensures.characters) ∙ c.if-equals_ignore_case.true)

pub loop-argument-preserved : goal.loop-argument-preserved
loop-argument-preserved c =
    first_later (λ (a : Argument). bytes_eq (fold c.args.name.now) (fold a.name))
    c.args.arguments.now c.loop-argument.argument-index _ c.loop-argument.invariant c.argument-item.result
    c.loop-argument-test.true
    c.argument-item.is (sym (c.equals_ignore_case.ensures ∙ ap (λ s. is_same_folded s c.argument-item.result.name)
    c.as_str.ensures.characters) ∙ c.if-equals_ignore_case.false)

pub returns : goal.returns
returns c =
    first_nowhere (λ (a : Argument). bytes_eq (fold c.args.name.now) (fold a.name))
    c.args.arguments.now c.loop-argument.argument-index _ c.loop-argument.invariant c.loop-argument-test.false
