-- Sums and products that stop at 2 ^ 64 - 1.
use Rattle.std.proofs.Common.{◌≡◌, ◌<◌, ◌≤◌, ◌+◌, ◌-◌, ◌*◌, ◌^◌, ℕ, zero, suc, min, arith, ⊎_elim, ◌∙◌}
use Rattle.std.proofs.lemmas.Bool.{cases_lt}
use Rattle.emitted_sizes.specs.Extent.{bounded}

-- a product of numbers that are these
product : (k m a x : ℕ) → k ≡ a → m ≡ x → k * m ≡ a * x
product k m a x p q = λ i. p i * q i

sums : (h u v r : ℕ) → h ≤ 2 ^ 64 - 1 → u ≡ v → r ≡ bounded (h + bounded u) → r ≡ bounded (h + v)
sums h u v r l s t = omega (arith, l, s, t)

-- neither number is cut
exact : (h a x k m r : ℕ) → h ≤ 2 ^ 64 - 1 → k ≡ a → m ≡ x → r ≡ bounded (h + bounded (k * m)) → r ≡ bounded (h + a * x)
exact h a x k m r l p q e = sums h (k * m) (a * x) r l (product k m a x p q) e

-- the product reaches the bound
full : (h u v r : ℕ) → h ≤ 2 ^ 64 - 1 → 2 ^ 64 - 1 ≤ h + u → 2 ^ 64 - 1 ≤ h + v → r ≡ bounded (h + bounded u)
    → r ≡ bounded (h + v)
full h u v r l s t e = omega (arith, l, s, t, e)

at_least : (k m a n : ℕ) → a ≤ k → 1 ≤ m → a ≤ k * m
at_least k zero a n p q = absurd (omega (arith, q))
at_least k (suc m) a n p q = omega (arith, p)

at_least_turned : (k m a n : ℕ) → 1 ≤ k → a ≤ m → a ≤ k * m
at_least_turned zero m a n p q = absurd (omega (arith, p))
at_least_turned (suc k) m a n p q = omega (arith, q)

none_of : (h a k m r : ℕ) → h ≤ 2 ^ 64 - 1 → m ≡ 0 → r ≡ bounded (h + bounded (k * m)) → r ≡ bounded (h + a * 0)
none_of h a k m r l p e = sums h (k * m) (a * 0) r l (product k m k 0 (λ i. k) p ∙ (omega arith)) e

-- more holes than there is room
many : (h0 h a x k m r : ℕ) → h0 ≤ h → h ≤ 2 ^ 64 - 1 → 2 ^ 64 - 1 - h0 < a → k ≡ 2 ^ 64 - 1 - h0
    → m ≡ min x (2 ^ 64 - 2) → r ≡ bounded (h + bounded (k * m)) → r ≡ bounded (h + a * x)
many h0 h a zero k m r l n p q s e = none_of h a k m r n (omega (arith, s)) e
many h0 h a (suc y) k m r l n p q s e =
    let u : k ≤ k * m = at_least k m k 0 (omega arith) (omega (arith, s)) in
    let v : a ≤ a * suc y = at_least a (suc y) a 0 (omega arith) (omega arith) in
    full h (k * m) (a * suc y) r n (omega (arith, l, q, u)) (omega (arith, l, p, v)) e

-- what is in a hole is as long as the bound
long : (h0 h a x k m r : ℕ) → 1 ≤ h0 → h0 ≤ h → h ≤ 2 ^ 64 - 1 → a ≤ 2 ^ 64 - 1 - h0 → k ≡ a → 2 ^ 64 - 2 < x
    → m ≡ 2 ^ 64 - 2 → r ≡ bounded (h + bounded (k * m)) → r ≡ bounded (h + a * x)
long h0 h zero x k m r f l n p q s t e =
    sums h (k * m) (0 * x) r n (product k m 0 m q (λ i. m) ∙ (omega arith)) e
long h0 h (suc b) x k m r f l n p q s t e =
    let u : m ≤ k * m = at_least_turned k m m 0 (omega (arith, q)) (omega arith) in
    let v : x ≤ suc b * x = at_least_turned (suc b) x x 0 (omega arith) (omega arith) in
    full h (k * m) (suc b * x) r n (omega (arith, f, l, t, u)) (omega (arith, f, l, s, v)) e

-- so many holes of so many characters more, both numbers cut where there is no room for more
pub step : (h0 h a x k m r : ℕ) → 1 ≤ h0 → h0 ≤ h → h ≤ 2 ^ 64 - 1 → k ≡ min a (2 ^ 64 - 1 - h0)
    → m ≡ min x (2 ^ 64 - 2) → r ≡ bounded (h + bounded (k * m)) → r ≡ bounded (h + a * x)
step h0 h a x k m r f l n q s e =
    ⊎_elim (λ (p : 2 ^ 64 - 1 - h0 < a). many h0 h a x k m r l n p (omega (arith, p, q)) s e)
    (λ (p : a ≤ 2 ^ 64 - 1 - h0).
    ⊎_elim (λ (t : 2 ^ 64 - 2 < x). long h0 h a x k m r f l n p (omega (arith, p, q)) t (omega (arith, s, t)) e)
    (λ (t : x ≤ 2 ^ 64 - 2). exact h a x k m r n (omega (arith, p, q)) (omega (arith, s, t)) e)
    (cases_lt (2 ^ 64 - 2) x))
    (cases_lt (2 ^ 64 - 1 - h0) a)
