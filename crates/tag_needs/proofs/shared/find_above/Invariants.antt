use Rattle.std.proofs.Common.{◌≡◌, ◌<◌, ℕ, drop}
use Rattle.std.specs.Prelude.{nat_eq}
use Rattle.std.specs.List.{list_any}
use Rattle.tag_needs.proofs.shared.find_above.Given as goal

abbrev pub invariant-loop-other : goal.invariant-loop-other
invariant-loop-other l = (j : ℕ) → l.number < j
    → list_any (nat_eq j) (drop l.other-index l.numbers) ≡ list_any (nat_eq j) l.numbers
