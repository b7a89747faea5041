use Rattle.std.proofs.Common.{◌≡◌, ◌++◌, drop, map, chars}
use Rattle.std.specs.Prelude.{string_bytes}
use Rattle.http_routes.specs.Routes.{id_of}
use Rattle.http_routes.specs.Seen.{seen}
use Rattle.http_routes.proofs.id.id_of.Given as goal

abbrev pub invariant-loop-segment : goal.invariant-loop-segment
invariant-loop-segment l =
    chars (string_bytes l.id) ++ id_of (map seen (drop l.segment-index l.segments)) ≡ id_of (map seen l.segments)
