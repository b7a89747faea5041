use Rattle.std.proofs.Common.{[]}
use Rattle.reading.specs.Knowledge.{blanked}
use Rattle.deploy_cells.specs.Cells.{output}
use Rattle.plan_cells.specs.Resources.{header_in}
use Rattle.plan_table.specs.Whole.{whole_of}
use Rattle.point_rows.specs.Rows.{known_now}
use Rattle.plan_standings.proofs.RootLemmas.{ValuesLeft}
use Rattle.plan_standings.proofs.root_outputs.root_outputs.Given as goal

abbrev pub invariant-each : goal.invariant-each
invariant-each l =
    ValuesLeft (λ n. blanked (known_now l.table l.later) (output [] n)) (header_in (whole_of l.table).template).outputs
    l.outputs.items l.declared-index
