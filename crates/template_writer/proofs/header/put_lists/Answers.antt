use Rattle.std.proofs.Common.{refl}
use Rattle.template_parts.specs.declared.output.Output.{Output}
use Rattle.template_parts.specs.declared.parameter.Parameter.{Parameter}
use Rattle.template_written.specs.Parts.{written_parameter, written_output}
use Rattle.template_writer.proofs.ListLemmas.{in_order}
use Rattle.template_writer.proofs.header.put_lists.Goals as goal

pub put_all-requires-clause-order : goal.put_all-requires-clause-order
put_all-requires-clause-order c =
    in_order written_parameter (λ (p : Parameter). p.name) c.args.template.now.parameters (λ p. refl)
    c.requires.keeps.parameters

pub put_all-requires-2-clause-order : goal.put_all-requires-2-clause-order
put_all-requires-2-clause-order c =
    in_order written_output (λ (o : Output). o.name) c.args.template.now.outputs (λ o. refl) c.requires.keeps.outputs
