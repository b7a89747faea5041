use Rattle.http_routes.specs.Targets.{route_in}
use Rattle.http_routes.proofs.TargetLemmas.{fault_kept}
use Rattle.http_routes.proofs.target.target_in.Goals as goal

pub returns-in-Err : goal.returns-in-Err
returns-in-Err c = fault_kept (route_in c.args.path.now) c.args.query.now c.in-Err.fault c.in-Err.ensures
