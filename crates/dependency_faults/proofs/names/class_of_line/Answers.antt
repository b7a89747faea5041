use Rattle.std.proofs.Common.{ap, ◌∙◌}
use Rattle.plan_table.specs.declared.line.Line.{Line}
use Rattle.plan_tasks.proofs.TableLemmas.{line_is}
use Rattle.dependency_faults.proofs.LineLemmas.{name_instance}
use Rattle.dependency_faults.proofs.names.class_of_line.Goals as goal

pub key_at-requires-clause-instance : goal.key_at-requires-clause-instance
key_at-requires-clause-instance c =
    name_instance c.args.table.now c.requires.table c.args.at c.in-Name.frame c.in-Name.resource c.in-Name.copy
    c.requires.listed
    (ap (λ (l : Line). l.spot) (line_is c.args.table.now.lines.items c.args.at c.index.result.now c.requires.listed
    c.index.ensures) ∙ c.in-Name.is)
