use Rattle.std.proofs.Common.{◌∙◌, ◌++◌, ◌∷◌, ◌+◌, ap, sym, drop, append_assoc, append-nil, string_bytes}
use Rattle.std.proofs.Common.{encode_utf8_all}
use Rattle.std.proofs.lemmas.List.{drop_more, drop_all}
use Rattle.std.proofs.lemmas.Str.{encodes-append}
use Rattle.lock_rules.specs.Spaced.{after_spaces}
use Rattle.command_refusals.proofs.listing.add_paths.Goals as goal

pub loop-path-preserved : goal.loop-path-preserved
loop-path-preserved c =
    let paths = c.args.paths.now in
    let i = c.loop-path.path-index in
    let x = c.path-item.result in
    let rest = after_spaces (drop (i + 1) paths) in
    let old = string_bytes c.loop-path.text in
    ap (λ b. b ++ encode_utf8_all rest) c.in_ok-add_path.ensures
    ∙ append_assoc old (encode_utf8_all (32 ∷ x)) (encode_utf8_all rest)
    ∙ ap (λ b. old ++ b) (sym (encodes-append (32 ∷ x) rest)
    ∙ ap (λ ns. encode_utf8_all (after_spaces ns))
    (sym (drop_more paths i x c.loop-path-test.true ∙ ap (λ y. y ∷ drop (i + 1) paths) (sym c.path-item.is))))
    ∙ c.loop-path.invariant

pub returns : goal.returns
returns c =
    let paths = c.args.paths.now in
    let i = c.loop-path.path-index in
    let old = string_bytes c.loop-path.text in
    sym (ap (λ ns. old ++ encode_utf8_all (after_spaces ns)) (drop_all i paths c.loop-path-test.false)
    ∙ append-nil old) ∙ c.loop-path.invariant
