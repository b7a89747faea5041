use Rattle.std.proofs.Common.{map, arith}
use Rattle.std.proofs.lemmas.List.{length-map}
use Rattle.http_routes.specs.Seen.{seen}
use Rattle.http_routes.proofs.RouteLemmas.{short_path}
use Rattle.http_routes.proofs.route.deployment_route.Goals as goal

pub returns-in_default : goal.returns-in_default
returns-in_default c =
    short_path (map seen c.args.segments.now)
    (omega (arith, length-map c.args.segments.now seen, c.in_default.len_below))
