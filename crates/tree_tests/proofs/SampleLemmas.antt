-- What a variable becomes by the one before it.
use Rattle.std.proofs.Common.{◌≡◌, ◌-◌, ℕ, zero, suc, refl}
use Rattle.std.specs.Prelude.{codes}
use Rattle.arm_expr.specs.Tree.{text, call}
use Rattle.bicep_emission.specs.Emitted.{three}
use Rattle.tree_tests.specs.Sample.{doubled}
use native.Mathlib.Numerals.{unary_clauses}

pub next_doubled : (n : ℕ) → (n ≡ 0 → ⊥)
    → call (codes "format") (three (text (codes "{0}{1}")) (doubled (n - 1)) (doubled (n - 1))) ≡ doubled n
next_doubled zero e = absurd (e refl)
next_doubled (suc n) e = simp unary_clauses refl
