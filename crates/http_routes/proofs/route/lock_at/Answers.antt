use Rattle.std.proofs.Common.{map, arith}
use Rattle.std.proofs.lemmas.List.{length-map}
use Rattle.http_routes.specs.Seen.{seen}
use Rattle.http_routes.proofs.RouteLemmas.{short_lock}
use Rattle.http_routes.proofs.route.lock_at.Goals as goal

pub returns-in_default : goal.returns-in_default
returns-in_default c =
    short_lock (map seen c.args.front.now) (map seen c.args.last.now)
    (omega (arith, length-map c.args.last.now seen, c.in_default.len_below))
