use Rattle.std.proofs.Common.{◌≡◌, ◌++◌, map, drop}
use Rattle.plan_filling.specs.Rows.{row_at}
use Rattle.plan_table.specs.Whole.{whole_of, rows_in}
use Rattle.plan_paths.specs.CellPaths.{cell_path}
use Rattle.fault_finding.proofs.circle.paths_of.Given as goal

abbrev pub invariant-places : goal.invariant-places
invariant-places l =
    l.paths ++ map (λ at. cell_path (whole_of l.table).template (row_at (rows_in l.table) at).cell)
    (drop l.at-index l.round)
    ≡ map (λ at. cell_path (whole_of l.table).template (row_at (rows_in l.table) at).cell) l.round
