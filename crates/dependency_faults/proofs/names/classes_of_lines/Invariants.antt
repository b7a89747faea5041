use Rattle.tag_holders.specs.Holders.{classes_in}
use Rattle.plan_table.specs.declared.line.Line.{Line}
use Rattle.dependency_faults.specs.Names.{spot_class}
use Rattle.dependency_faults.proofs.LineLemmas.{LinesLeft}
use Rattle.dependency_faults.proofs.names.classes_of_lines.Given as goal

abbrev pub invariant-lines : goal.invariant-lines
invariant-lines l =
    LinesLeft (λ (x : Line). spot_class l.table x.spot) l.table.lines.items (classes_in l.all.items) l.at
