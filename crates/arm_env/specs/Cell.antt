-- The cells of the code.
use Rattle.std.specs.Prelude.{List, ℕ}
use Rattle.arm_value.specs.Look.{fold}
use Rattle.arm_env.specs.Look as look
use Rattle.arm_env.specs.declared.cell.Cell.{Cell}
use Rattle.arm_env.specs.declared.cell.Cell.TheVariants as cell

-- the cell that it is
abbrev pub look_of : Cell → look.Look
look_of (cell.Parameter name) = look.parameter (fold name)
look_of (cell.Variable name) = look.variable (fold name)
look_of (cell.Output k name) = look.output k (fold name)
look_of (cell.State k) = look.state k
look_of (cell.Named text) = look.named text
look_of (cell.Deployment k) = look.deployment k
look_of (cell.Outputs k) = look.outputs k
