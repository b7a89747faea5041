use Rattle.std.proofs.Common.{◌∙◌, ◌++◌, ap, sym, encode_utf8_all}
use Rattle.std.proofs.lemmas.Str.{encodes-append}
use Rattle.lock_rules.specs.Spaced.{after_spaces}
use Rattle.command_refusals.proofs.listing.from_first.Goals as goal

pub returns : goal.returns
returns c =
    let rest = after_spaces c.args.rest.now in
    c.in_ok-add_names.ensures
    ∙ ap (λ b. b ++ encode_utf8_all rest) (c.in_ok-text.ensures.ok ∙ c.as_str.ensures.bytes)
    ∙ sym (encodes-append c.args.first.now rest)
