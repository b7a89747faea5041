use Rattle.std.proofs.Common.{◌≡◌, ◌∷◌, [], List, ℕ, IfOk, chars, string_bytes, subst}
use Rattle.arm_ids.specs.Segments.{slashed}
use Rattle.arm_ids.proofs.WordLemmas.{chars_subscriptions, chars_groups, chars_providers}
use Rattle.arm_ids.proofs.id.ResourceId.start.Goals as goal

pub returns : goal.returns
returns c =
    let P : List (List ℕ) → Type 0 = λ ss. IfOk c.slashed.result (λ s. chars (string_bytes s) ≡ slashed ss) in
    subst P (λ j. chars_subscriptions j ∷ c.as_str.ensures.characters j ∷ chars_groups j
    ∷ c.as_str-2.ensures.characters j ∷ chars_providers j ∷ []) c.slashed.ensures
