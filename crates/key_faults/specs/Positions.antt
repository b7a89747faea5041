-- The positions that a fault names.
use Rattle.std.specs.Prelude.{ℕ, List}
use Rattle.deploy_cells.specs.Cells.{step}
use Rattle.plan_table.specs.declared.table.Table.{Table}
use Rattle.plan_table.specs.Whole.{whole_of}
use Rattle.plan_table.specs.Found.{scope_at}
use Rattle.plan_openers.specs.declared.opener.Opener.{Opener}
use Rattle.plan_paths.specs.Texts.{a_position, instance_text}

-- the position of an instance as a text
abbrev pub position_text : Table → Opener → List ℕ
position_text t x =
    instance_text a_position (whole_of t).template (scope_at t x.frame).position (step x.resource x.copy)
