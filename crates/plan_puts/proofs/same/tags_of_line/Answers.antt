use Rattle.std.proofs.Common.{ap, ◌∙◌}
use Rattle.plan_table.specs.declared.line.Line.{Line}
use Rattle.plan_puts.proofs.InstanceLemmas.{line_here}
use Rattle.plan_puts.proofs.LineLemmas.{instance_there}
use Rattle.plan_puts.proofs.same.tags_of_line.Goals as goal

pub tags_of_instance-requires-clause-instance : goal.tags_of_instance-requires-clause-instance
tags_of_instance-requires-clause-instance c =
    instance_there c.args.table.now c.requires.table c.args.at c.in-Included.frame c.in-Included.resource
    c.in-Included.copy c.requires.listed
    (ap (λ (l : Line). l.spot) (line_here c.args.table.now.lines.items c.args.at c.index.result.now c.requires.listed
    c.index.ensures) ∙ c.in-Included.is)
