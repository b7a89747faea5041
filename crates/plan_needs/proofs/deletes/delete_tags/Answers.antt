use Rattle.std.proofs.Common.{◌++◌, ◌∷◌, [], ◌∙◌, ℕ, List, map, ap}
use Rattle.std.specs.declared.vec.Vec.{Vec}
use Rattle.std.specs.declared.alloc.Global.{Global}
use Rattle.tag_needs.specs.Tags.{tags_of}
use Rattle.plan_needs.proofs.ScopeLemmas.{delete_made}
use Rattle.plan_needs.proofs.deletes.delete_tags.Goals as goal

pub returns : goal.returns
returns c =
    λ t.
    delete_made t c.args.key.now (tags_of c.push_child.new.tags) c.parts-parts.ensures.is_key
    (c.in_ok-push_child.ensures
    ∙ ap (λ (vs : List (Vec ℕ Global)). map (λ (v : Vec ℕ Global). v.items) vs ++ (4 ∷ c.as_slice.result.now) ∷ [])
    c.new-tags.ensures.items
    ∙ ap (λ (xs : List ℕ). (4 ∷ xs) ∷ []) (c.as_slice.ensures.value ∙ c.in_ok-numbers.ensures))
