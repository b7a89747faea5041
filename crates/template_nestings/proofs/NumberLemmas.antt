-- Numbers that are counted up to a most.
use Rattle.std.proofs.Common.{◌≡◌, ◌≤◌, ◌<◌, ◌+◌, ◌-◌, ◌^◌, ℕ, zero, suc, min, max, Bool, true, false, List, [], ◌∷◌}
use Rattle.std.proofs.Common.{length, refl, sym, ap, ◌∙◌, true≢false, arith}
use Rattle.std.proofs.lemmas.Bool.Decides.{nat_tests}
use Rattle.std.specs.Prelude.{◌==◌, if◌then◌else◌}
use Rattle.foundation.proofs.Comparisons.{eq_of_true}
use Rattle.arm_value.specs.Json.{Json, items_nesting}
use Rattle.template_nestings.specs.Nestings.{up, deepest, listed, items_or_none}

abbrev pub most : ℕ
most = 2 ^ 64 - 1

up_by : (m x p : ℕ) → suc p < m → min (x + 1) m ≤ suc p → x ≤ p
up_by m x p l h = omega (arith, l, h)

never_none : (m x : ℕ) → 0 < m → min (x + 1) m ≤ 0 → ⊥
never_none m x l h = absurd (omega (arith, l, h))

lower : (m n p : ℕ) → n ≡ suc p → n < m → p < m
lower m n p e l = omega (arith, e, l)

-- what is inside of something that nests so deep
pub record Inside (x n : ℕ) : Type 0 where
  pub depth : ℕ
  pub is : n ≡ suc depth
  pub small : depth < most
  pub within : x ≤ depth

pub inside : (x n : ℕ) → n < most → up x ≤ n → Inside x n
inside x zero l h = absurd (never_none most x l h)
inside x (suc p) l h = record {
  depth = p;
  is = refl;
  small = lower most (suc p) p refl l;
  within = up_by most x p l h;
}

pub left_of : (a b n : ℕ) → max a b ≤ n → a ≤ n
left_of a b n h = omega (arith, h)

pub right_of : (a b n : ℕ) → max a b ≤ n → b ≤ n
right_of a b n h = omega (arith, h)

pub both_of : (a b n : ℕ) → a ≤ n → b ≤ n → max a b ≤ n
both_of a b n h g = omega (arith, h, g)

pub one_more : (a n p : ℕ) → n ≡ suc p → a ≤ p → suc a ≤ n
one_more a n p e h = omega (arith, e, h)

pub at_least : (n : ℕ) → 0 ≤ n
at_least n = omega arith

-- ---- lists that are empty

none : (0 == 0) ≡ true
none = grind (arith, nat_tests)

pub not_none : (n : ℕ) → (suc n == 0) ≡ false
not_none n = by_test (suc n == 0) refl
  where
    by_test : (b : Bool) → (suc n == 0) ≡ b → b ≡ false
    by_test true e =
        let q = eq_of_true (suc n) 0 e in
        absurd (omega (arith, q))
    by_test false e = refl

pub is_none : (0 == 0) ≡ false → ⊥
is_none e = absurd (true≢false (sym none ∙ e))

pub listed_none : {A : Type 0} (f : A → ℕ) → listed f [] ≡ 0
listed_none f = ap (λ b. if b then 0 else up 0) none

pub listed_more : {A : Type 0} (f : A → ℕ) (x : A) (xs : List A) → listed f (x ∷ xs) ≡ up (deepest f (x ∷ xs))
listed_more f x xs = ap (λ b. if b then 0 else up (deepest f (x ∷ xs))) (not_none (length xs))

pub items_none : items_or_none [] ≡ 0
items_none = ap (λ b. if b then 0 else up 0) none

pub items_more : (j : Json) (js : List Json) → items_or_none (j ∷ js) ≡ up (items_nesting (j ∷ js))
items_more j js = ap (λ b. if b then 0 else up (items_nesting (j ∷ js))) (not_none (length js))
