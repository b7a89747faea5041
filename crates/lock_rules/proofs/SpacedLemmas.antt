-- Names in a row, from the first on.
use Rattle.std.proofs.Common.{◌≡◌, ℕ, true, false, ltb, List, [], ◌∷◌, ◌++◌, drop, get_or, length, refl, ap, sym}
use Rattle.std.proofs.Common.{arith}
use Rattle.foundation.proofs.Comparisons.{le_of_false}
use Rattle.lock_rules.specs.Spaced.{spaced, after_spaces}

pub spaced_split : (names : List (List ℕ)) (first : List ℕ) → true ≡ ltb 0 (length names)
    → first ≡ get_or names 0 first → first ++ after_spaces (drop 1 names) ≡ spaced names
spaced_split [] first some e = absurd (cc)
spaced_split (n ∷ ns) first some e = ap (λ x. x ++ after_spaces ns) e

pub spaced_none : (names : List (List ℕ)) → false ≡ ltb 0 (length names) → [] ≡ spaced names
spaced_none [] e = refl
spaced_none (n ∷ ns) e = let none = le_of_false 0 (length (n ∷ ns)) (sym e) in absurd (omega (arith, none))
