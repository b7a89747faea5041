use Rattle.std.proofs.Common.{◌∷◌, [], ◌∙◌}
use Rattle.arm_ids.specs.Segments.{slashed}
use Rattle.arm_ids.proofs.WordLemmas.{chars_subscriptions}
use Rattle.arm_ids.proofs.scope.subscription_id.Goals as goal

pub returns : goal.returns
returns c =
    c.from_string.ensures.characters ∙ c.in_ok-id.ensures
    ∙ (λ j. slashed (chars_subscriptions j ∷ c.as_str.ensures.characters j ∷ []))
