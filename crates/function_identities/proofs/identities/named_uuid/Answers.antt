use Rattle.std.proofs.Common.{◌≡◌, ◌∙◌, ap, subst, IfOk}
use Rattle.std.specs.Str.{chars}
use Rattle.uuid.specs.Text.{hyphenated_text, lower}
use Rattle.function_identities.specs.Identities.{version_5}
use Rattle.function_identities.proofs.TextLemmas.{uuid_characters}
use Rattle.function_identities.proofs.identities.named_uuid.Goals as goal

pub returns : goal.returns
unfolding version_5
returns c =
    let uuid = c.hyphenated.ensures ∙ c.new_v5-uuid.ensures.value in
    subst (λ x. IfOk c.of.result (λ t. t ≡ x))
    (ap chars (c.encode_lower.ensures.text ∙ ap (hyphenated_text lower) uuid) ∙ uuid_characters _) c.of.ensures
