-- Tests of order on natural numbers, and what they say.
use Rattle.std.proofs.Common.{◌≡◌, ◌≤◌, ◌<◌, ℕ, Bool, true, false, nat_le, nat_lt, refl, arith, ◌+◌, ◌⊎◌, ◌%◌}
use Rattle.std.proofs.Common.{zero, suc, sym, ◌∙◌, true≢false}
use Rattle.std.proofs.lemmas.Bool.Decides.{nat_tests}
use Rattle.std.specs.Prelude.{◌==◌}
use Rattle.std.specs.Ordering.{nat_cmp}
use Rattle.std.specs.Cmp.{nat_cmp_is}
use Rattle.std.specs.declared.cmp.Ordering.TheVariants.{Less}
use Rattle.foundation.proofs.TruthValues.{both_ways, unless}

pub le_true : (m n : ℕ) → m ≤ n → nat_le m n ≡ true
le_true m n h = grind (arith, nat_tests)

pub le_false : (m n : ℕ) → n < m → nat_le m n ≡ false
le_false m n h = grind (arith, nat_tests)

pub le_of_true : (m n : ℕ) → nat_le m n ≡ true → m ≤ n
le_of_true m n h = grind (arith, nat_tests)

pub lt_of_false : (m n : ℕ) → nat_le m n ≡ false → n < m
lt_of_false m n h = grind (arith, nat_tests)

pub lt_true : (m n : ℕ) → m < n → nat_lt m n ≡ true
lt_true m n h = grind (arith, nat_tests)

pub lt_false : (m n : ℕ) → n ≤ m → nat_lt m n ≡ false
lt_false m n h = grind (arith, nat_tests)

pub lt_of_true : (m n : ℕ) → nat_lt m n ≡ true → m < n
lt_of_true m n h = grind (arith, nat_tests)

pub le_of_false : (m n : ℕ) → nat_lt m n ≡ false → n ≤ m
le_of_false m n h = grind (arith, nat_tests)

-- what holds on both sides of a test holds of its answer
pub by_le : (m n : ℕ) (P : Bool → Type 0) → (m ≤ n → P true) → (n < m → P false) → P (nat_le m n)
by_le m n P f g = elim (nat_le m n) as (λ b. nat_le m n ≡ b → P b) [
  | true ↦ λ y. f (le_of_true m n y)
  | false ↦
      λ y. g (lt_of_false m n y)
] refl

pub eq_of_true : (m n : ℕ) → (m == n) ≡ true → m ≡ n
eq_of_true m n e = grind (arith, nat_tests)

pub eq_true : (m n : ℕ) → m ≡ n → (m == n) ≡ true
eq_true m n e = grind (arith, nat_tests)

pub eq_itself : (n : ℕ) → (n == n) ≡ true
eq_itself n = eq_true n n refl

pub eq_false : (m n : ℕ) → (m ≡ n → ⊥) → (m == n) ≡ false
eq_false m n h = unless (m == n) (λ e. h (eq_of_true m n e))

pub ne_of_false : (m n : ℕ) → (m == n) ≡ false → m ≡ n → ⊥
ne_of_false m n e h = true≢false (sym (eq_true m n h) ∙ e)

pub eq_turned : (m n : ℕ) → (m == n) ≡ (n == m)
eq_turned m n =
    both_ways (m == n) (n == m) (λ e. eq_true n m (sym (eq_of_true m n e)))
    (λ e. eq_true m n (sym (eq_of_true n m e)))

pub none_below : (n : ℕ) → nat_lt n 0 ≡ false
none_below n = lt_false n 0 (omega arith)

pub not_below_zero : (n : ℕ) → nat_lt n 0 ≡ true → ⊥
not_below_zero n e = true≢false (sym e ∙ none_below n)

pub less : (m n : ℕ) → m < n → nat_cmp m n ≡ Less
less m n h = sym (nat_cmp_is m n Less h)

pub positive : (n : ℕ) → nat_lt 0 n ≡ true → 0 < n
positive n e = grind (arith, nat_tests)

pub lt_or_is : (i n : ℕ) → i < n + 1 → (i < n) ⊎ (i ≡ n)
lt_or_is i n h = grind (arith, h)

pub lt_suc_or_is : (i n : ℕ) → i < suc n → (i < n) ⊎ (i ≡ n)
lt_suc_or_is i n h = lt_or_is i n (omega (arith, h))

pub is_or_lt : (i n : ℕ) → i < n + 1 → (i ≡ n) ⊎ (i < n)
is_or_lt i n h = grind (arith, h)

pub apart : (m n : ℕ) → (m ≡ n → ⊥) → (m < n) ⊎ (n < m)
apart m n h = grind (arith, h)

pub last_digit : (n : ℕ) → n % 10 < 10
last_digit n = omega arith
