use Rattle.std.proofs.Common.{◌∙◌, ◌++◌, ◌∷◌, [], ap, append_assoc, string_bytes}
use Rattle.command_refusals.proofs.listing.add_after_space.Goals as goal

pub returns : goal.returns
returns c =
    c.in_ok-push_str-2.ensures.bytes ∙ ap (λ b. b ++ c.args.added.now) c.in_ok-push_str.ensures.bytes
    ∙ append_assoc (string_bytes c.args.text.now) (32 ∷ []) c.args.added.now
