-- Extents with a run of a loop in the holes.
use Rattle.std.proofs.Common.{◌≡◌, ◌<◌, ◌≤◌, ◌+◌, ◌-◌, ◌*◌, ◌^◌, ℕ, min, max, Option, Some, None, ap, ◌∙◌, sym, arith}
use Rattle.arm_expr.specs.Print.{size}
use Rattle.arm_expr.specs.Tree.{Tree, nesting}
use Rattle.measured_expressions.specs.Emitted.{Frame}
use Rattle.emission_laws.specs.Holes.{fill}
use Rattle.emitted_sizes.specs.Extent.{bounded}
use Rattle.measured_holes.specs.Growth.{size_with, items_in, indices_in, nesting_with, item_depth, index_depth, under}
use Rattle.measured_holes.specs.Probes.{deep, wide, probe}
use Rattle.measured_holes.proofs.GrowthLemmas.{size_filled, nesting_filled, size_grows, nesting_grows, one_character}
use Rattle.measured_holes.proofs.GrowthLemmas.{one_with, deep_size, deep_nesting}
use Rattle.measured_holes.proofs.NumberLemmas.{step}

-- ---- characters

-- the characters by those of what is in the holes
size_by : (f : Frame) (t : Tree) (x y : ℕ) → size f.item ≡ 1 + x → size f.index ≡ 1 + y
    → size (fill f t) ≡ size_with 1 1 t + (items_in t * x + indices_in t * y)
size_by f t x y p q = size_filled f t ∙ (λ i. size_with (p i) (q i) t) ∙ size_grows x y t

added_up : (s n u v p q : ℕ) → n ≡ bounded s → u ≡ bounded (n + p) → v ≡ bounded (u + q) → v ≡ bounded (s + (p + q))
added_up s n u v p q a b c = omega (arith, a, b, c)

less_one : (c z : ℕ) → 1 ≤ z → c ≡ bounded z → c - 1 ≡ min (z - 1) (2 ^ 64 - 2)
less_one c z l e = omega (arith, l, e)

one_more : (z : ℕ) → 1 ≤ z → z ≡ 1 + (z - 1)
one_more z l = omega (arith, l)

at_least_one : (n s : ℕ) → 1 ≤ s → n ≡ bounded s → 1 ≤ n
at_least_one n s l e = omega (arith, l, e)

at_most : (n s : ℕ) → n ≡ bounded s → n ≤ 2 ^ 64 - 1
at_most n s e = omega (arith, e)

not_less : (n p u : ℕ) → n ≤ 2 ^ 64 - 1 → u ≡ bounded (n + p) → n ≤ u
not_less n p u l e = omega (arith, l, e)

pub length_filled : (t : Tree) (f : Frame) (n a b i j u v : ℕ) → n ≡ bounded (size_with 1 1 t)
    → a ≡ min (items_in t) (2 ^ 64 - 1 - n) → b ≡ min (indices_in t) (2 ^ 64 - 1 - n) → i ≡ bounded (size f.item)
    → j ≡ bounded (size f.index) → u ≡ bounded (n + bounded (a * (i - 1))) → v ≡ bounded (u + bounded (b * (j - 1)))
    → v ≡ bounded (size (fill f t))
length_filled t f n a b i j u v n_is a_is b_is i_is j_is u_is v_is =
    let x = size f.item - 1 in
    let y = size f.index - 1 in
    let one = at_least_one n (size_with 1 1 t) (one_with t) n_is in
    let most = at_most n (size_with 1 1 t) n_is in
    let first : u ≡ bounded (n + items_in t * x) =
    step n n (items_in t) x a (i - 1) u one (omega arith) most a_is
    (less_one i (size f.item) (one_character f.item) i_is) u_is in
    let second : v ≡ bounded (u + indices_in t * y) =
    step n u (indices_in t) y b (j - 1) v one (not_less n (items_in t * x) u most first)
    (at_most u (n + items_in t * x) first) b_is (less_one j (size f.index) (one_character f.index) j_is) v_is in
    added_up (size_with 1 1 t) n u v (items_in t * x) (indices_in t * y) n_is first second
    ∙ ap bounded (sym (size_by f t x y (one_more (size f.item) (one_character f.item))
    (one_more (size f.index) (one_character f.index))))

-- ---- depths

under_bounded : (o : Option ℕ) (d : ℕ) → bounded (under o (bounded d)) ≡ bounded (under o d)
under_bounded None d = omega arith
under_bounded (Some k) d = omega arith

deepest_of : (m a b c d u v : ℕ) → m ≤ 2 ^ 64 - 1 → bounded a ≡ bounded c → bounded b ≡ bounded d
    → u ≡ max m (bounded a) → v ≡ max u (bounded b) → v ≡ bounded (max m (max c d))
deepest_of m a b c d u v l p q r s = omega (arith, l, p, q, r, s)

pub depth_filled : (t : Tree) (f : Frame) (m i j u v : ℕ) (o p : Option ℕ) → m ≤ 2 ^ 64 - 1 → m ≡ nesting_with 0 0 t
    → o ≡ item_depth t → p ≡ index_depth t → i ≡ bounded (nesting f.item) → j ≡ bounded (nesting f.index)
    → u ≡ max m (bounded (under o i)) → v ≡ max u (bounded (under p j)) → v ≡ bounded (nesting (fill f t))
depth_filled t f m i j u v o p l m_is o_is p_is i_is j_is u_is v_is =
    let a : bounded (under o i) ≡ bounded (under (item_depth t) (nesting f.item)) =
    (λ k. bounded (under (o_is k) (i_is k))) ∙ under_bounded (item_depth t) (nesting f.item) in
    let b : bounded (under p j) ≡ bounded (under (index_depth t) (nesting f.index)) =
    (λ k. bounded (under (p_is k) (j_is k))) ∙ under_bounded (index_depth t) (nesting f.index) in
    deepest_of m (under o i) (under p j) (under (item_depth t) (nesting f.item))
    (under (index_depth t) (nesting f.index)) u v l a b u_is v_is
    ∙ ap (λ n. bounded (max n (max (under (item_depth t) (nesting f.item)) (under (index_depth t) (nesting f.index)))))
    m_is
    ∙ ap bounded (sym (nesting_filled f t ∙ nesting_grows (nesting f.item) (nesting f.index) t))

-- ---- probes

-- the characters with what has so many in the holes
pub probed_size : (t a i : Tree) (x y n : ℕ) → size a ≡ 1 + x → size i ≡ 1 + y → n ≡ bounded (size (fill (probe a i) t))
    → n ≡ bounded (size_with 1 1 t + (items_in t * x + indices_in t * y))
probed_size t a i x y n p q e = e ∙ ap bounded (size_by (probe a i) t x y p q)

pub least_size : (t : Tree) (n : ℕ) → n ≡ bounded (size (fill (probe (deep 0) (deep 0)) t))
    → n ≡ bounded (size_with 1 1 t)
least_size t n e =
    at_none (size_with 1 1 t) (items_in t) (indices_in t) n
    (probed_size t (deep 0) (deep 0) 0 0 n (deep_size 0) (deep_size 0) e)
  where
    at_none : (s a b n : ℕ) → n ≡ bounded (s + (a * 0 + b * 0)) → n ≡ bounded s
    at_none s a b n e = omega (arith, e)

pub item_size : (t : Tree) (n w d : ℕ) → n ≡ bounded (size_with 1 1 t)
    → w ≡ bounded (size (fill (probe wide (deep 0)) t)) → d ≡ w - n → d ≡ min (items_in t) (2 ^ 64 - 1 - n)
item_size t n w d p q r =
    at_one (size_with 1 1 t) (items_in t) (indices_in t) n w d p
    (probed_size t wide (deep 0) 1 0 w (omega arith) (deep_size 0) q) r
  where
    at_one : (s a b n w d : ℕ) → n ≡ bounded s → w ≡ bounded (s + (a * 1 + b * 0)) → d ≡ w - n
        → d ≡ min a (2 ^ 64 - 1 - n)
    at_one s a b n w d p q r = omega (arith, p, q, r)

pub index_size : (t : Tree) (n w d : ℕ) → n ≡ bounded (size_with 1 1 t)
    → w ≡ bounded (size (fill (probe (deep 0) wide) t)) → d ≡ w - n → d ≡ min (indices_in t) (2 ^ 64 - 1 - n)
index_size t n w d p q r =
    at_one (size_with 1 1 t) (items_in t) (indices_in t) n w d p
    (probed_size t (deep 0) wide 0 1 w (deep_size 0) (omega arith) q) r
  where
    at_one : (s a b n w d : ℕ) → n ≡ bounded s → w ≡ bounded (s + (a * 0 + b * 1)) → d ≡ w - n
        → d ≡ min b (2 ^ 64 - 1 - n)
    at_one s a b n w d p q r = omega (arith, p, q, r)

-- how deep it nests with what nests so deep in the holes
probed_nesting : (t : Tree) (x y n : ℕ) → n ≡ bounded (nesting (fill (probe (deep x) (deep y)) t))
    → n ≡ bounded (max (nesting_with 0 0 t) (max (under (item_depth t) x) (under (index_depth t) y)))
probed_nesting t x y n e =
    e ∙ ap bounded (nesting_filled (probe (deep x) (deep y)) t
    ∙ (λ i. nesting_with (deep_nesting x i) (deep_nesting y i) t) ∙ nesting_grows x y t)

pub least_nesting : (t : Tree) (n : ℕ) → n < 2 ^ 62 → n ≡ bounded (nesting (fill (probe (deep 0) (deep 0)) t))
    → n ≡ nesting_with 0 0 t
least_nesting t n l e =
    small (nesting_with 0 0 t) n l
    (e ∙ ap bounded (nesting_filled (probe (deep 0) (deep 0)) t
    ∙ (λ i. nesting_with (deep_nesting 0 i) (deep_nesting 0 i) t)))
  where
    small : (m n : ℕ) → n < 2 ^ 62 → n ≡ bounded m → n ≡ m
    small m n l e = omega (arith, l, e)

flat_holes : (t : Tree) (n : ℕ) → n ≡ nesting_with 0 0 t
    → (under (item_depth t) 0 ≤ n) × (under (index_depth t) 0 ≤ n)
flat_holes t n e =
    parts (nesting_with 0 0 t) (under (item_depth t) 0) (under (index_depth t) 0) (nesting_grows 0 0 t) e
  where
    parts : (m a b : ℕ) → m ≡ max m (max a b) → n ≡ m → (a ≤ n) × (b ≤ n)
    parts m a b p q = (omega (arith, p, q), omega (arith, p, q))

pub flat_item : (t : Tree) (n : ℕ) → n ≡ nesting_with 0 0 t → under (item_depth t) 0 ≤ n
flat_item t n e = (flat_holes t n e).0

pub flat_index : (t : Tree) (n : ℕ) → n ≡ nesting_with 0 0 t → under (index_depth t) 0 ≤ n
flat_index t n e = (flat_holes t n e).1

same_depth : (n k : ℕ) → n < 2 ^ 62 → k ≡ bounded (n + 1) → k ≡ n + 1
same_depth n k l e = omega (arith, l, e)

pub item_found : (t : Tree) (n w : ℕ) → n < 2 ^ 62 → n ≡ nesting_with 0 0 t
    → w ≡ bounded (nesting (fill (probe (deep (bounded (n + 1))) (deep 0)) t))
    → w ≡ bounded (max n (max (under (item_depth t) (n + 1)) (under (index_depth t) 0)))
item_found t n w l e p =
    probed_nesting t (bounded (n + 1)) 0 w p
    ∙ (λ i. bounded (max (sym e i)
    (max (under (item_depth t) (same_depth n (bounded (n + 1)) l (λ j. bounded (n + 1)) i))
    (under (index_depth t) 0))))

pub index_found : (t : Tree) (n w : ℕ) → n < 2 ^ 62 → n ≡ nesting_with 0 0 t
    → w ≡ bounded (nesting (fill (probe (deep 0) (deep (bounded (n + 1)))) t))
    → w ≡ bounded (max n (max (under (index_depth t) (n + 1)) (under (item_depth t) 0)))
index_found t n w l e p =
    probed_nesting t 0 (bounded (n + 1)) w p
    ∙ (λ i. bounded (max (sym e i) (max (under (item_depth t) 0)
    (under (index_depth t) (same_depth n (bounded (n + 1)) l (λ j. bounded (n + 1)) i)))))
    ∙ turned n (under (item_depth t) 0) (under (index_depth t) (n + 1))
  where
    turned : (n a b : ℕ) → bounded (max n (max a b)) ≡ bounded (max n (max b a))
    turned n a b = omega arith

pub is_bounded : (n : ℕ) → n ≤ 2 ^ 64 - 1 → n ≡ bounded n
is_bounded n l = omega (arith, l)
