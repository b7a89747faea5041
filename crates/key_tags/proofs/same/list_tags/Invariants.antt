use Rattle.std.proofs.Common.{◌≡◌, ◌++◌, ◌∷◌, [], map, drop}
use Rattle.tag_needs.specs.Tags.{tags_in}
use Rattle.key_tags.specs.KeyCodes.{key_code}
use Rattle.key_tags.proofs.same.list_tags.Given as goal

abbrev pub invariant-loop-key : goal.invariant-loop-key
invariant-loop-key l = tags_in l.all.items ++ map (λ k. key_code k ∷ []) (drop l.key-index l.keys)
    ≡ map (λ k. key_code k ∷ []) l.keys
