use Rattle.std.proofs.Common.{◌≡◌, ◌||◌, ℕ, map}
use Rattle.std.specs.Ordering.{nat_cmp}
use Rattle.std.specs.BTreeSet.{contains}
use Rattle.tag_needs.specs.Numbers.{is_listed_at}
use Rattle.tag_needs.proofs.needs.add_all.Given as goal

abbrev pub invariant-loop-tag : goal.invariant-loop-tag
invariant-loop-tag l = (j : ℕ) → (contains nat_cmp l.found j || is_listed_at l.numbers j (map
    (λ k. k.now) l.tag-iterator))
    ≡ (contains nat_cmp l.initial.found j || is_listed_at l.numbers j (map (λ k. k.now) l.tags.keys))
