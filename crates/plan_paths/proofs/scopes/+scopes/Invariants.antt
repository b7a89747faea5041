use Rattle.std.proofs.Common.{◌+◌, ◌*◌}
use Rattle.plan_paths.proofs.scopes.+scopes.Given as goal

abbrev pub decreases-scope_path : goal.decreases-scope_path
decreases-scope_path l = 2 * l.frame

abbrev pub decreases-instance_path : goal.decreases-instance_path
decreases-instance_path l = 2 * l.frame + 1
