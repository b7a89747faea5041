-- Parts of what is beyond no limit.
use Rattle.std.proofs.Common.{◌≡◌, ◌≤◌, ◌<◌, ◌+◌, ℕ, zero, suc, max, None, refl, sym, ap, subst, arith}
use Rattle.std.proofs.Common.{◌⊎◌, inl, inr}
use Rattle.measured_trees.specs.Extremes.{Extremes, joined, enclosed}
use Rattle.measured_trees.specs.Limits.{IsBeyond}
use Rattle.file_limits.specs.Extremes.{over}

abbrev pub Within : ℕ → Extremes → Type 0
Within around y = IsBeyond around y None

at_most : (a b n : ℕ) → max a b ≤ n → (a ≤ n) × (b ≤ n)
at_most a b n h = (omega (arith, h), omega (arith, h))

around_most : (i a b n : ℕ) → i + max a b ≤ n → (i + a ≤ n) × (i + b ≤ n)
around_most i a b n h = (omega (arith, h), omega (arith, h))

deeper : (i a n : ℕ) → i + suc a ≤ n → suc i + a ≤ n
deeper i a n h = omega (arith, h)

module _ (i : ℕ) (y z : Extremes) (h : Within i (joined y z)) where
  pub first_part : Within i y
  first_part = (
    (at_most y.longest z.longest _ h.0).0,
    ((around_most i y.depth z.depth _ h.1.0).0, (at_most y.deepest z.deepest _ h.1.1).0),
  )

  pub second_part : Within i z
  second_part = (
    (at_most y.longest z.longest _ h.0).1,
    ((around_most i y.depth z.depth _ h.1.0).1, (at_most y.deepest z.deepest _ h.1.1).1),
  )

pub inside : (i : ℕ) (y : Extremes) → Within i (enclosed y) → Within (suc i) y
inside i y h = (h.0, (deeper i y.depth _ h.1.0, h.1.1))

pub one_of : (i : ℕ) (y : ℕ → Extremes) (k n : ℕ) → n < k → Within i (over y k) → Within i (y n)
one_of i y zero n l h = absurd (omega (arith, l))
one_of i y (suc k) n l h =
    by_part (λ m. one_of i y k n m (first_part i (over y k) (y k) h)) (last n k (omega (arith, l)))
  where
    last : (n k : ℕ) → n ≤ k → (n < k) ⊎ (n ≡ k)
    last zero zero l = inr refl
    last zero (suc k) l = inl (omega arith)
    last (suc n) zero l = absurd (omega (arith, l))
    last (suc n) (suc k) l = next (last n k (omega (arith, l)))
      where
        next : (n < k) ⊎ (n ≡ k) → (suc n < suc k) ⊎ (suc n ≡ suc k)
        next (inl m) = inl (omega (arith, m))
        next (inr e) = inr (ap suc e)

    by_part : (n < k → Within i (y n)) → (n < k) ⊎ (n ≡ k) → Within i (y n)
    by_part before (inl m) = before m
    by_part before (inr e) = subst (λ m. Within i (y m)) (sym e) (second_part i (over y k) (y k) h)
