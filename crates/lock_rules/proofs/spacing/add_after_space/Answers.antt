use Rattle.std.proofs.Common.{◌∙◌, ◌++◌, ◌∷◌, [], ap, append_assoc, string_bytes}
use lib.Utf8.{encode}
use Rattle.lock_rules.proofs.spacing.add_after_space.Goals as goal

pub returns : goal.returns
unfolding encode
returns c =
    let old = string_bytes c.args.text.now in
    let name = c.as_str.result.now in
    c.in_ok-push_str-2.ensures.bytes ∙ ap (λ b. b ++ name) c.in_ok-push_str.ensures.bytes
    ∙ append_assoc old (32 ∷ []) name ∙ ap (λ b. old ++ 32 ∷ b) c.as_str.ensures.bytes
