use Rattle.std.proofs.Common.{◌∙◌, ◌++◌, ap, sym, encode_utf8_all}
use Rattle.std.proofs.lemmas.Str.{encodes-append}
use Rattle.arm_value.proofs.PointerLemmas.{text_is}
use Rattle.lock_rules.specs.Spaced.{after_spaces}
use Rattle.lock_rules.proofs.spacing.spaced_from.Goals as goal

pub returns : goal.returns
returns c =
    let first = c.args.first.now in
    let rest = after_spaces c.args.rest.now in
    text_is c.from_string.result _ (first ++ rest) c.from_string.ensures.bytes
    (c.in_ok-add_after_spaces.ensures
    ∙ ap (λ b. b ++ encode_utf8_all rest) (c.in_ok-text.ensures.ok ∙ c.as_str.ensures.bytes)
    ∙ sym (encodes-append first rest))
