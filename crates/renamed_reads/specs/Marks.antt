-- Which new cells are marked, where cells are.
use Rattle.std.specs.Prelude.{Bool, false, Option, Some, None}
use Rattle.deploy_cells.specs.Cells.{Cell}
use Rattle.cell_renaming.specs.Renaming.{Renaming, from_cell}

abbrev pub marked_by : (Cell → Bool) → Option Cell → Bool
marked_by marks None = false
marked_by marks (Some c) = marks c

-- those whose cells are marked
abbrev pub marked : Renaming → (Cell → Bool) → Cell → Bool
marked r marks d = marked_by marks (from_cell r d)
