-- Items and members, listed and back, and what is left of a list of values.
use Rattle.std.proofs.Common.{◌≡◌, ◌<◌, ◌≤◌, ◌+◌, ◌-◌, ℕ, suc, List, [], ◌∷◌, length, get_or, drop, take, map, refl}
use Rattle.std.proofs.Common.{ap, sym, add-one, arith}
use Rattle.std.proofs.Math.Seq.{drop-cons}
use Rattle.std.proofs.lemmas.List.{drop_all, take_all}
use Rattle.arm_value.proofs.TreeLemmas.{members-pairs}
use Rattle.arm_value.proofs.SameLemmas.{items-row}
use Rattle.arm_value.specs.View.{json}
use Rattle.arm_value.specs.declared.value.Value.{Value}

-- the next of what is left, and what is left after it
pub next_in : (vs : List Value) (i : ℕ) (v : Value) → i < length vs → v ≡ get_or vs i v
    → map json (drop i vs) ≡ json v ∷ map json (drop (i + 1) vs)
next_in vs i v h e = rw (add-one, drop-cons vs i v h) (ap (λ (w : Value). json w ∷ map json (drop (suc i) vs)) (sym e))

pub none_left : (vs : List Value) (i : ℕ) → length vs ≤ i → map json (drop i vs) ≡ []
none_left vs i h = ap (map json) (drop_all i vs h)

-- what a pattern finds after the first of a list
pub after_first : {A : Type 0} (x : A) (xs : List A) → take (length (x ∷ xs) - 1) (drop 1 (x ∷ xs)) ≡ xs
after_first x xs = let n : length xs ≤ length (x ∷ xs) - 1 = omega arith in take_all (length (x ∷ xs) - 1) xs n

pub ruleset rows_and_pairs = (items-row, members-pairs)

-- lemmas of `arm_value`, by names that the tactics of contracts can have
pub ruleset items_of_row = (items-row)

pub ruleset members_of_pairs = (members-pairs)
