use Rattle.std.proofs.Common.{◌≡◌, ◌++◌, ◌∷◌, ℕ, List, subst, string_bytes}
use Rattle.std.specs.Prelude.{OnOk}
use lib.Utf8.{encode}
use Rattle.command_refusals.proofs.listing.add_path.Goals as goal

pub returns : goal.returns
unfolding encode
returns c =
    subst (λ (b : List ℕ). OnOk c.add_after_space.result
    (string_bytes c.add_after_space.new.text ≡ string_bytes c.args.text.now ++ 32 ∷ b)) c.as_str.ensures.bytes
    c.add_after_space.ensures
