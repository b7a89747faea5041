use Rattle.std.proofs.Common.{◌∙◌, ◌++◌, ◌∷◌, ◌+◌, ap, sym, drop, append_assoc, append-nil, string_bytes}
use Rattle.std.proofs.Common.{encode_utf8_all}
use Rattle.std.proofs.lemmas.List.{drop_more, drop_all}
use Rattle.std.proofs.lemmas.Str.{encodes-append}
use Rattle.lock_rules.specs.Spaced.{after_spaces}
use Rattle.command_refusals.proofs.listing.add_names.Goals as goal

pub loop-name-preserved : goal.loop-name-preserved
loop-name-preserved c =
    let names = c.args.names.now in
    let i = c.loop-name.name-index in
    let x = c.name-item.result in
    let rest = after_spaces (drop (i + 1) names) in
    let old = string_bytes c.loop-name.text in
    ap (λ b. b ++ encode_utf8_all rest) c.in_ok-add_name.ensures
    ∙ append_assoc old (encode_utf8_all (32 ∷ x)) (encode_utf8_all rest)
    ∙ ap (λ b. old ++ b) (sym (encodes-append (32 ∷ x) rest)
    ∙ ap (λ ns. encode_utf8_all (after_spaces ns))
    (sym (drop_more names i x c.loop-name-test.true ∙ ap (λ y. y ∷ drop (i + 1) names) (sym c.name-item.is))))
    ∙ c.loop-name.invariant

pub returns : goal.returns
returns c =
    let names = c.args.names.now in
    let i = c.loop-name.name-index in
    let old = string_bytes c.loop-name.text in
    sym (ap (λ ns. old ++ encode_utf8_all (after_spaces ns)) (drop_all i names c.loop-name-test.false)
    ∙ append-nil old) ∙ c.loop-name.invariant
