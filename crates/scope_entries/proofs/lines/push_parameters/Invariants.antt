use Rattle.std.proofs.Common.{map, drop}
use Rattle.arm_value.specs.Look.{fold}
use Rattle.template_parts.specs.declared.parameter.Parameter.{Parameter}
use Rattle.deploy_cells.specs.Cells.{parameter}
use Rattle.plan_cells.specs.Children.{parameter_names}
use Rattle.plan_table.specs.Found.{scope_at}
use Rattle.scope_entries.specs.Entries.{AreOwnLines, cells_at}
use Rattle.scope_entries.proofs.LineLemmas.{LinesLeft}
use Rattle.scope_entries.proofs.lines.push_parameters.Given as goal

abbrev pub invariant-loop-given : goal.invariant-loop-given
invariant-loop-given l = record {
  own : AreOwnLines l.table l.frame l.lines.items;
  left : LinesLeft l.table (parameter (scope_at l.table l.frame).position)
      (cells_at l.table l.fn.lines.items) (parameter_names (scope_at l.table l.frame).template) l.lines.items
      (map (λ (p : Parameter). fold p.name) (drop l.given-index l.parameters));
}
