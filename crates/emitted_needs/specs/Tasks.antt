-- The task of a template that a task of its program is.
use Rattle.std.specs.Prelude.{Option, Some, option_map}
use Rattle.deploy_cells.specs.Cells.{step}
use Rattle.plan_cells.specs.Tasks.{Task, enter, leave, put, delete}
use Rattle.cell_renaming.specs.Renaming.{Renaming, with_both, to_position}

abbrev pub to_task : Renaming → Task → Option Task
to_task r (enter p) = option_map enter (to_position r p)
to_task r (leave p) = option_map leave (to_position r p)
to_task r (put p s) = with_both (to_position r p) (r.number p s.resource) (λ q m. put q (step m s.copy))
to_task r (delete k) = Some (delete k)
