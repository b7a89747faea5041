use Rattle.std.proofs.Common.{codes, ◌∙◌, [], ◌∷◌}
use Rattle.arm_ids.specs.Id.{path}
use Rattle.arm_env.proofs.IdLemmas.{more, next_one}
use Rattle.arm_env.proofs.Words.{word_providers}
use Rattle.arm_env.proofs.ids.group_path.Goals as goal

pub returns : goal.returns
returns c =
    let s = c.args.subscription.now in
    let g = c.args.group.now in
    c.from_string.ensures.characters
    ∙ more (codes "subscriptions" ∷ s ∷ codes "resourceGroups" ∷ g ∷ codes "providers" ∷ [])
    (path c.args.types.now c.args.names.now) _ _
    (next_one (codes "subscriptions" ∷ s ∷ codes "resourceGroups" ∷ g ∷ []) _ _ _ _
    c.in_ok-text.ensures c.in_ok-push_segment.ensures word_providers)
    c.in_ok-push_path.ensures
