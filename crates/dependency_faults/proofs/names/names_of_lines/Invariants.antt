use Rattle.tag_needs.specs.Tags.{tags_in}
use Rattle.plan_table.specs.declared.line.Line.{Line}
use Rattle.dependency_faults.specs.Names.{spot_names}
use Rattle.dependency_faults.proofs.LineLemmas.{LinesLeft}
use Rattle.dependency_faults.proofs.names.names_of_lines.Given as goal

abbrev pub invariant-lines : goal.invariant-lines
invariant-lines l = LinesLeft (λ (x : Line). spot_names l.table x.spot) l.table.lines.items (tags_in l.all.items) l.at
