use Rattle.std.proofs.Common.{◌+◌, ◌*◌}
use Rattle.plan_positions.proofs.positions.+positions.Given as goal

abbrev pub decreases-scope_position : goal.decreases-scope_position
decreases-scope_position l = 2 * l.frame

abbrev pub decreases-instance_position : goal.decreases-instance_position
decreases-instance_position l = 2 * l.frame + 1
