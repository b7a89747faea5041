use Rattle.std.proofs.Common.{◌≡◌, ◌++◌, drop, map, codes}
use Rattle.httparse.specs.Spans.{header_bytes}
use Rattle.http_heads.specs.Fields.{body_length, agreed, values}
use Rattle.http_heads.proofs.FieldLemmas.{kept}
use Rattle.http_heads.proofs.fields.body_length.Given as goal

abbrev pub invariant-loop-field : goal.invariant-loop-field
invariant-loop-field l =
    agreed (kept l.found ++ values (codes "content-length") (map (header_bytes l.bytes) (drop l.field-index l.fields)))
    ≡ body_length (map (header_bytes l.bytes) l.fields)
