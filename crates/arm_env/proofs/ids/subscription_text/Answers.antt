use Rattle.std.proofs.Common.{codes, chars, ap, ◌∙◌, [], ◌∷◌}
use Rattle.std.proofs.lemmas.Str.{chars-nil}
use Rattle.arm_env.proofs.IdLemmas.{first, next_one}
use Rattle.arm_env.proofs.Words.{word_subscriptions}
use Rattle.arm_env.proofs.ids.subscription_text.Goals as goal

pub returns : goal.returns
returns c =
    next_one (codes "subscriptions" ∷ []) _ _ _ _
    (first _ _ _ _ (ap chars c.new-text.ensures.bytes ∙ chars-nil) c.in_ok-push_segment.ensures
    word_subscriptions) c.in_ok-push_segment-2.ensures c.as_str.ensures.characters
