-- Sums that stop at 2 ^ 64 - 1.
use Rattle.std.proofs.Common.{◌≡◌, ◌<◌, ◌+◌, ◌-◌, ◌^◌, ◌≤◌, ℕ, List, length, drop, get_or, cond, eqb, min, max, ap, ◌∙◌}
use Rattle.std.proofs.Common.{arith, subst, true}
use Rattle.std.specs.Prelude.{if◌then◌else◌}
use Rattle.std.proofs.lemmas.List.{drop_all}
use Rattle.arm_expr.specs.Grammar.{doubled}
use Rattle.arm_expr.proofs.PrintLemmas.{counts_one}
use Rattle.arm_expr.specs.Tree.{Tree, call}
use Rattle.bicep_tree.specs.declared.leaf.Operator.{Operator}
use Rattle.emitted_parts.specs.Emitted.{two, small}
use Rattle.emitted_parts.specs.Words.{operator_word, is_lowered, compared}
use Rattle.emitted_sizes.specs.Extent.{bounded, IsOf}
use Rattle.emitted_sizes.specs.declared.extent.Extent.{Extent}

-- ---- texts within quotes

pub quoted_turn : (all : List ℕ) (n m c old new w whole : ℕ) → (n < length all) × (c ≡ get_or all n c) → m ≡ n + 1
    → w ≡ cond (eqb c 39) 2 1 → new ≡ min (old + w) (2 ^ 64 - 1)
    → bounded (old + length (doubled (drop n all))) ≡ whole → bounded (new + length (doubled (drop m all))) ≡ whole
quoted_turn all n m c old new w whole t m_is w_is new_is inv =
    ap (λ k. bounded (new + length (doubled (drop k all)))) m_is
    ∙ turned (length (doubled (drop (n + 1) all))) (counts_one all n c t)
  where
    turned : (q : ℕ) → length (doubled (drop n all)) ≡ cond (eqb c 39) 2 1 + q
        → bounded (new + q) ≡ whole
    turned q e = next old new w (cond (eqb c 39) 2 1) (length (doubled (drop n all))) q whole w_is new_is e inv
      where
        next : (old new w v p q whole : ℕ) → w ≡ v → new ≡ min (old + w) (2 ^ 64 - 1) → p ≡ v + q
            → bounded (old + p) ≡ whole → bounded (new + q) ≡ whole
        next old new w v p q whole a b d inv = omega (arith, a, b, d, inv)

pub quoted_end : (all : List ℕ) (n old whole : ℕ) → n ≡ length all
    → bounded (old + length (doubled (drop n all))) ≡ whole → old ≤ 2 ^ 64 - 1 → old ≡ whole
quoted_end all n old whole n_is inv l =
    last old (length (doubled (drop n all))) whole
    (ap (λ xs. length (doubled xs)) (drop_all n all (omega arith))) inv l
  where
    last : (old p whole : ℕ) → p ≡ 0 → bounded (old + p) ≡ whole → old ≤ 2 ^ 64 - 1 → old ≡ whole
    last old p whole e inv l = omega (arith, e, inv, l)

-- ---- one more argument, and the end

pub with_length : (l b s k w x y z : ℕ) → x ≡ bounded (l + b) → y ≡ bounded s → z ≡ bounded (x + y)
    → bounded (l + (b + s + k)) ≡ w → bounded (z + k) ≡ w
with_length l b s k w x y z p q r e = omega (arith, p, q, r, e)

pub with_depth : (d n k w y z : ℕ) → y ≡ bounded n → z ≡ max d y → bounded (max d (max n k)) ≡ w
    → bounded (max z k) ≡ w
with_depth d n k w y z q r e = omega (arith, q, r, e)

pub end_depth : (d w : ℕ) → d ≤ 2 ^ 64 - 1 → bounded (max d 0) ≡ w → d ≡ w
end_depth d w l e = omega (arith, l, e)

-- ---- calls and accesses

pub call_length : (n k a x y z : ℕ) → n ≡ k → a ≡ bounded y → x ≡ bounded (a + k) → z ≡ bounded (x + 1)
    → z ≡ bounded (n + 1 + y)
call_length n k a x y z p q r s = omega (arith, p, q, r, s)

pub one_deeper : (d n z : ℕ) → d ≡ bounded n → z ≡ bounded (d + 1) → z ≡ bounded (1 + n)
one_deeper d n z p q = omega (arith, p, q)

pub member_length : (n k a x y z : ℕ) → n ≡ k → a ≡ bounded y → x ≡ bounded (a + 1) → z ≡ bounded (x + k)
    → z ≡ bounded (y + 1 + n)
member_length n k a x y z p q r s = omega (arith, p, q, r, s)

pub part_length : (a i x y v z : ℕ) → a ≡ bounded y → i ≡ bounded v → x ≡ bounded (a + 2) → z ≡ bounded (x + i)
    → z ≡ bounded (2 + y + v)
part_length a i x y v z p q r s = omega (arith, p, q, r, s)

pub part_depth : (a i x y v z : ℕ) → a ≡ bounded y → i ≡ bounded v → x ≡ max a i → z ≡ bounded (x + 1)
    → z ≡ bounded (1 + max y v)
part_depth a i x y v z p q r s = omega (arith, p, q, r, s)

-- ---- operators

-- an extent of an expression that is also this one
pub also : (t u : Tree) (x : Extent) → t ≡ u → IsOf t x → IsOf u x
also t u x e i = subst (λ v. IsOf v x) e i

pub lowered_there : (op : Operator) → true ≡ is_lowered op → (a b : Tree)
    → call (operator_word op) (two (small a) (small b)) ≡ compared op a b
lowered_there op e a b = ap (λ p. call (operator_word op) (if p then two (small a) (small b) else two a b)) e
