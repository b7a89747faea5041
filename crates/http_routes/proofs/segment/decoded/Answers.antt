use Rattle.std.proofs.Common.{◌≡◌, ℕ, List, Some, ap, sym, ◌∙◌, chars, subst, true≢false}
use Rattle.std.specs.Prelude.{string_bytes}
use Rattle.std.specs.Str.{IsUtf8}
use Rattle.std.proofs.lemmas.Str.{IsUtf8-string_bytes}
use Rattle.http_routes.specs.Segments.{Part, is_name}
use Rattle.http_routes.proofs.SegmentLemmas.{decodes, no_name, no_utf8}
use Rattle.http_routes.proofs.segment.decoded.Goals as goal

pub returns-then-not-is_name : goal.returns-then-not-is_name
returns-then-not-is_name c =
    no_name c.args.sent.now c.args.bytes.items
    (ap is_name (sym c.as_slice.ensures.value) ∙ sym c.is_name.ensures ∙ c.if-not-is_name.true)

pub returns-in-Ok : goal.returns-in-Ok
returns-in-Ok c =
    let bytes : string_bytes c.in-Ok.name ≡ c.args.bytes.items = ap (λ v. v.items) c.in-Ok.ensures.ok in
    let part : List ℕ → Part = λ n. record { sent = c.args.sent.now; name = n } in
    let name = ap is_name (sym c.as_slice.ensures.value) ∙ sym c.is_name.ensures ∙ c.if-not-is_name.false in
    ap (λ n. Some (part n)) (c.from_string.ensures.characters ∙ ap chars bytes)
    ∙ decodes c.args.sent.now c.args.bytes.items name
    (subst IsUtf8 bytes (IsUtf8-string_bytes c.in-Ok.name))

pub returns-in-Err : goal.returns-in-Err
returns-in-Err c =
    c.nothing.ensures ∙ no_utf8 c.args.sent.now c.args.bytes.items (λ u. true≢false (sym (c.in-Err.ensures.succeeds u)))
