-- Numbers that stop at 2 ^ 64 - 1.
use Rattle.std.proofs.Common.{◌≡◌, ◌≤◌, ◌<◌, ◌+◌, ◌-◌, ◌^◌, ℕ, suc, max, arith}
use Rattle.emitted_sizes.specs.Extent.{bounded}

pub begins : (x : ℕ) → bounded (max 0 x) ≡ bounded x
begins x = omega arith

pub ends : (a x : ℕ) → a ≤ 2 ^ 64 - 1 → bounded (max a 0) ≡ bounded x → a ≡ bounded x
ends a x h e = omega (arith, h, e)

pub greater_of : (a b x y z : ℕ) → a ≡ bounded x → b ≡ bounded y → z ≡ max a b → z ≡ bounded (max x y)
greater_of a b x y z p q r = omega (arith, p, q, r)

pub with_one : (a b x r w z : ℕ) → b ≡ bounded x → z ≡ max a b → bounded (max a (max x r)) ≡ w
    → bounded (max z r) ≡ w
with_one a b x r w z p q e = omega (arith, p, q, e)

pub one_deeper : (a x z : ℕ) → a ≡ bounded x → z ≡ bounded (a + 1) → z ≡ bounded (suc x)
one_deeper a x z p q = omega (arith, p, q)

pub two_deeper : (a x z : ℕ) → a ≡ bounded x → z ≡ bounded (a + 2) → z ≡ bounded (suc (suc x))
two_deeper a x z p q = omega (arith, p, q)

pub two_more : (a x y z : ℕ) → a ≡ bounded x → z ≡ bounded (a + 2) → y ≡ x + 2 → z ≡ bounded y
two_more a x y z p q e = omega (arith, p, q, e)

-- ---- limits, which are far below the bound

pub beyond_it : (a x n : ℕ) → a ≡ bounded x → n < a → n < x
beyond_it a x n p h = omega (arith, p, h)

pub within_it : (a x n : ℕ) → a ≡ bounded x → a ≤ n → n < 2 ^ 64 - 1 → x ≤ n
within_it a x n p h k = omega (arith, p, h, k)

pub around_it : (a x b z : ℕ) → a ≡ bounded x → z ≡ bounded (a + b) → z ≡ bounded (b + x)
around_it a x b z p q = omega (arith, p, q)
