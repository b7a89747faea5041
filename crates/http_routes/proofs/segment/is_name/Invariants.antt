use Rattle.std.proofs.Common.{◌≡◌, drop}
use Rattle.std.specs.List.{list_any}
use Rattle.http_routes.specs.Segments.{is_slash}
use Rattle.http_routes.proofs.segment.is_name.Given as goal

abbrev pub invariant-loop-byte : goal.invariant-loop-byte
invariant-loop-byte l = list_any is_slash (drop l.byte-index l.bytes) ≡ list_any is_slash l.bytes
