use Rattle.std.proofs.Common.{map, arith}
use Rattle.std.proofs.lemmas.List.{length-map}
use Rattle.http_routes.specs.Seen.{seen}
use Rattle.http_routes.proofs.RouteLemmas.{short_deployment}
use Rattle.http_routes.proofs.route.deployment_of.Goals as goal

pub returns-in_default : goal.returns-in_default
returns-in_default c =
    short_deployment (seen c.args.subscription.now) (seen c.args.group.now) (map seen c.args.rest.now)
    (omega (arith, length-map c.args.rest.now seen, c.in_default.len_below))
