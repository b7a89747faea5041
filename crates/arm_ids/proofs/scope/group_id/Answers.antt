use Rattle.std.proofs.Common.{◌∷◌, [], ◌∙◌}
use Rattle.arm_ids.specs.Segments.{slashed}
use Rattle.arm_ids.proofs.WordLemmas.{chars_subscriptions, chars_groups}
use Rattle.arm_ids.proofs.scope.group_id.Goals as goal

pub returns : goal.returns
returns c =
    c.from_string.ensures.characters ∙ c.in_ok-id.ensures
    ∙ (λ j. slashed (chars_subscriptions j ∷ c.as_str.ensures.characters j ∷ chars_groups j
    ∷ c.as_str-2.ensures.characters j ∷ []))
