use Rattle.std.proofs.Common.{◌≡◌, drop, map}
use Rattle.httparse.specs.Spans.{header_bytes}
use Rattle.http_heads.specs.Fields.{is_coded}
use Rattle.http_heads.proofs.fields.is_coded.Given as goal

abbrev pub invariant-loop-field : goal.invariant-loop-field
invariant-loop-field l =
    is_coded (map (header_bytes l.bytes) (drop l.field-index l.fields)) ≡ is_coded (map (header_bytes l.bytes) l.fields)
