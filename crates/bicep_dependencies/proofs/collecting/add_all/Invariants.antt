use Rattle.std.proofs.Common.{◌≡◌, ◌||◌, ℕ}
use Rattle.bicep_dependencies.specs.Dependencies.{has}
use Rattle.bicep_dependencies.proofs.collecting.add_all.Given as goal

-- what is left of the set, and what has been added
abbrev pub invariant-loop-number : goal.invariant-loop-number
invariant-loop-number l =
    (n : ℕ) → (has l.number-iterator n || has l.out.keys n) ≡ (has l.numbers.keys n || has l.initial.out.keys n)
