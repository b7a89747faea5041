use Rattle.std.proofs.Common.{◌≡◌, ◌<◌, ℕ, drop, map}
use Rattle.tag_needs.specs.Numbers.{is_listed_at}
use Rattle.tag_needs.proofs.shared.find_other.Given as goal

abbrev pub invariant-loop-tag : goal.invariant-loop-tag
invariant-loop-tag l = (j : ℕ) → l.number < j
    → is_listed_at l.numbers j (map (λ t. t.items) (drop l.tag-index l.tags))
    ≡ is_listed_at l.numbers j (map (λ t. t.items) l.tags)
