use Rattle.std.proofs.Common.{sym, ◌∙◌}
use Rattle.template_meaning.proofs.ValueLemmas.{value_back}
use Rattle.template_parts.specs.declared.content.Content.TheVariants as content
use Rattle.template_reading.proofs.variable.VariablePart.read.Goals as goal

pub returns-in-Ok : goal.returns-in-Ok
returns-in-Ok c = λ x. record {
  name = c.in_ok-name.ensures x;
  content = content.Value ((c.in-Ok.ensures ∙ sym (value_back c.args.field.now.value)) x);
}
