-- Which numbers a set has.
use Rattle.std.proofs.Common.{◌≡◌, ◌==◌, ◌||◌, ℕ, Bool, true, false, List, [], ◌∷◌, refl, sym, ap, subst, ◌∙◌, arith}
use Rattle.std.proofs.Common.{Ordering, Less, Equal, Greater, nat_cmp}
use Rattle.std.specs.BTreeSet.{insert_key}
use Rattle.std.specs.Ordering.{match_ordering}
use Rattle.std.proofs.lemmas.Bool.Decides.{nat_tests}
use Rattle.foundation.proofs.TruthValues.{or_again}
use Rattle.bicep_dependencies.specs.Dependencies.{has}

pub swapped : (a b c : Bool) → (a || (b || c)) ≡ (b || (a || c))
swapped true true c = refl
swapped true false c = refl
swapped false b c = refl

has_by : (o : Ordering) (k x : ℕ) (xs : List ℕ) (n : ℕ) → nat_cmp k x ≡ o
    → has (insert_key nat_cmp xs k) n ≡ ((k == n) || has xs n)
    → has (match_ordering o (k ∷ x ∷ xs) (x ∷ xs) (x ∷ insert_key nat_cmp xs k)) n ≡ ((k == n) || has (x ∷ xs) n)
has_by Less k x xs n e h = refl
has_by Equal k x xs n e h =
    let same : k ≡ x = grind (arith, nat_tests) in
    subst (λ y. has (x ∷ xs) n ≡ ((y == n) || has (x ∷ xs) n)) (sym same) (or_again (x == n) (has xs n))
has_by Greater k x xs n e h = ap (λ b. (x == n) || b) h ∙ swapped (x == n) (k == n) (has xs n)

-- a set with one number more
pub has_insert : (ks : List ℕ) (k n : ℕ) → has (insert_key nat_cmp ks k) n ≡ ((k == n) || has ks n)
has_insert [] k n = refl
has_insert (x ∷ xs) k n = has_by (nat_cmp k x) k x xs n refl (has_insert xs k n)
