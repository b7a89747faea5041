-- What the first so many take together.
use Rattle.std.proofs.Common.{◌≡◌, ◌≤◌, ◌+◌, ℕ, suc, List, subst, arith}
use Rattle.measured_trees.specs.Extremes.{Extremes, joined}
use Rattle.measured_trees.specs.Measures.{IsOf}
use Rattle.measured_trees.specs.declared.measure.Measure.{Measure}
use Rattle.file_limits.specs.Extremes.{over, AreOf}

-- what the first k of n take
pub record SoFar (y : ℕ → Extremes) (n k : ℕ) (m : Measure) : Type 0 where
  pub most : k ≤ n
  pub so_far : IsOf (over y k) m

-- the same by what modules take
pub record SoFarWith (ms : List Measure) (y : (ℕ → Extremes) → ℕ → Extremes) (n k : ℕ) (m : Measure) : Type 0 where
  pub most : k ≤ n
  pub so_far : (x : ℕ → Extremes) → AreOf x ms → IsOf (over (y x) k) m

pub next_over : (x : ℕ → Extremes) (k : ℕ) (m : Measure) → IsOf (joined (over x k) (x k)) m → IsOf (over x (k + 1)) m
next_over x k m h = subst (λ n. IsOf (over x n) m) (next k) h
  where
    next : (k : ℕ) → suc k ≡ k + 1
    next k = omega arith

pub all_over : (x : ℕ → Extremes) (k n : ℕ) (m : Measure) → k ≡ n → IsOf (over x k) m → IsOf (over x n) m
all_over x k n m e h = subst (λ j. IsOf (over x j) m) e h
