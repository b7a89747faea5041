use Rattle.std.proofs.Common.{codes, [], ◌∷◌}
use Rattle.arm_env.proofs.IdLemmas.{next_one}
use Rattle.arm_env.proofs.Words.{word_resourceGroups}
use Rattle.arm_env.proofs.ids.group_text.Goals as goal

pub returns : goal.returns
returns c =
    let s = c.args.subscription.now in
    next_one (codes "subscriptions" ∷ s ∷ codes "resourceGroups" ∷ []) _ _ _ _
    (next_one (codes "subscriptions" ∷ s ∷ []) _ _ _ _ c.in_ok-text.ensures
    c.in_ok-push_segment.ensures word_resourceGroups) c.in_ok-push_segment-2.ensures
    c.as_str.ensures.characters
