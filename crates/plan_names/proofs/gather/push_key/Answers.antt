use Rattle.std.proofs.Common.{ap, ap₂, ◌∙◌, ◌++◌, ◌∷◌, []}
use Rattle.deploy_cells.specs.Puts.{key_at}
use Rattle.plan_names.proofs.gather.push_key.Goals as goal

pub returns : goal.returns
returns c =
    c.in_ok-push.ensures.items
    ∙ ap (λ k. c.args.keys.now.items ++ k ∷ [])
    (c.in_ok-key.ensures
    ∙ ap₂ (key_at c.args.place.now) c.as_str.ensures.characters c.as_str-2.ensures.characters)
