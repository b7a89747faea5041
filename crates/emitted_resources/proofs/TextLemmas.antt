-- Conditions that always hold.
use Rattle.std.proofs.Common.{◌≡◌, ℕ, true, false, List, [], ◌∷◌, length, codes, refl, ap, sym, arith}
use Rattle.std.specs.Prelude.{bytes_eq}
use Rattle.foundation.proofs.Words.{eq_word}
use Rattle.arm_expr.specs.Tree.{Tree, text, int, call, member, index, trees}
use Rattle.arm_expr.specs.Tree as tree
use Rattle.emitted_resources.specs.Heads.{is_always}

-- a call is `true()` where it has no argument, and this name
pub without_arguments : (name : List ℕ) (es : List Tree) → length es ≡ 0
    → is_always (call name (trees es)) ≡ bytes_eq name (codes "true")
without_arguments name [] e = refl
without_arguments name (x ∷ xs) e = absurd (omega (arith, e))

pub with_arguments : (name : List ℕ) (es : List Tree) → (length es ≡ 0 → ⊥) → is_always (call name (trees es)) ≡ false
with_arguments name [] n = absurd (n refl)
with_arguments name (x ∷ xs) n = refl

pub always_is : (e : Tree) → true ≡ is_always e → e ≡ call (codes "true") tree.none
always_is (text s) h = absurd cc
always_is (int z) h = absurd cc
always_is (call name tree.none) h = ap (λ n. call n tree.none) (eq_word name (codes "true") (sym h))
always_is (call name (tree.more e es)) h = absurd cc
always_is (member e name) h = absurd cc
always_is (index e i) h = absurd cc
