-- The extent of an expression with something in its holes.
use Rattle.std.proofs.Common.{◌≡◌, ◌≤◌, ◌+◌, ◌*◌, ◌/◌, ◌%◌, ℕ, zero, suc, ℤ, pos, negsuc, Bool, true, false, List, []}
use Rattle.std.proofs.Common.{◌∷◌, length, max, Option, Some, None, refl, ap, ◌∙◌, arith}
use Rattle.std.specs.Fmt.{decimal, digits, digits_onto, digit_glyph, signed_decimal}
use Rattle.std.specs.Prelude.{◌==◌, if◌then◌else◌}
use Rattle.arm_expr.specs.Print.{size, arguments_size}
use Rattle.arm_expr.specs.Tree.{Tree, Trees, text, int, call, member, index, none, more, nesting, deepest}
use Rattle.measured_expressions.specs.Emitted.{Frame}
use Rattle.emission_laws.specs.Holes.{fill, fill_all}
use Rattle.measured_holes.specs.Growth.{size_with, arguments_with, all_holes_with, items_in, indices_in}
use Rattle.measured_holes.specs.Growth.{nesting_with, deepest_with, one_deeper, greater, depth_of_all}
use Rattle.measured_holes.specs.Growth.{item_depth, index_depth, under}
use Rattle.measured_holes.specs.Probes.{deep}

-- ---- filled

mutual
  pub size_filled : (f : Frame) (t : Tree) → size (fill f t) ≡ size_with (size f.item) (size f.index) t
  size_filled f (text s) = refl
  size_filled f (int z) = refl
  size_filled f (call [] none) = refl
  size_filled f (call [] (more e es)) = refl
  size_filled f (call (c ∷ cs) es) = ap (λ n. length (c ∷ cs) + 1 + n) (arguments_filled f 0 es)
  size_filled f (member e name) = ap (λ n. n + 1 + length name) (size_filled f e)
  size_filled f (index e i) =
      let p = size_filled f e in
      let q = size_filled f i in
      λ k. 2 + p k + q k

  arguments_filled : (f : Frame) (n : ℕ) (es : Trees)
      → arguments_size n (fill_all f es) ≡ arguments_with (size f.item) (size f.index) n es
  arguments_filled f n none = refl
  arguments_filled f n (more e es) =
      let p = size_filled f e in
      let q = arguments_filled f 2 es in
      λ k. n + p k + q k

mutual
  pub nesting_filled : (f : Frame) (t : Tree) → nesting (fill f t) ≡ nesting_with (nesting f.item) (nesting f.index) t
  nesting_filled f (text s) = refl
  nesting_filled f (int z) = refl
  nesting_filled f (call [] none) = refl
  nesting_filled f (call [] (more e es)) = refl
  nesting_filled f (call (c ∷ cs) es) = ap (λ n. 1 + n) (deepest_filled f es)
  nesting_filled f (member e name) = ap (λ n. 1 + n) (nesting_filled f e)
  nesting_filled f (index e i) =
      let p = nesting_filled f e in
      let q = nesting_filled f i in
      λ k. 1 + max (p k) (q k)

  deepest_filled : (f : Frame) (es : Trees)
      → deepest (fill_all f es) ≡ deepest_with (nesting f.item) (nesting f.index) es
  deepest_filled f none = refl
  deepest_filled f (more e es) =
      let p = nesting_filled f e in
      let q = deepest_filled f es in
      λ k. max (p k) (q k)

-- ---- characters

mutual
  pub size_grows : (x y : ℕ) (t : Tree)
      → size_with (1 + x) (1 + y) t ≡ size_with 1 1 t + (items_in t * x + indices_in t * y)
  size_grows x y (text s) = omega arith
  size_grows x y (int z) = omega arith
  size_grows x y (call [] none) = omega arith
  size_grows x y (call [] (more e es)) = omega arith
  size_grows x y (call (c ∷ cs) es) = omega (arith, arguments_grow x y 0 es)
  size_grows x y (member e name) = omega (arith, size_grows x y e)
  size_grows x y (index e i) = omega (arith, size_grows x y e, size_grows x y i)

  arguments_grow : (x y n : ℕ) (es : Trees) → arguments_with (1 + x) (1 + y) n es
      ≡ arguments_with 1 1 n es + (all_holes_with 1 0 es * x + all_holes_with 0 1 es * y)
  arguments_grow x y n none = omega arith
  arguments_grow x y n (more e es) = omega (arith, size_grows x y e, arguments_grow x y 2 es)

digits_more : (k n : ℕ) (acc : List ℕ) → length acc ≤ length (digits_onto k 10 false n acc)
digits_more zero n acc = omega arith
digits_more (suc k) n acc =
    by_last (n / 10 == 0) (length acc) (digit_glyph false (n % 10) ∷ acc)
    (digits_onto k 10 false (n / 10) (digit_glyph false (n % 10) ∷ acc)) (omega arith)
    (let e = digits_more k (n / 10) (digit_glyph false (n % 10) ∷ acc) in omega (arith, e))
  where
    by_last : (b : Bool) (m : ℕ) (xs ys : List ℕ) → m ≤ length xs → m ≤ length ys
        → m ≤ length (if b then xs else ys)
    by_last true m xs ys p q = p
    by_last false m xs ys p q = q

one_digit : (n : ℕ) → 1 ≤ length (decimal n)
unfolding digits
one_digit n =
    by_last (n / 10 == 0) (digit_glyph false (n % 10) ∷ [])
    (digits_onto 63 10 false (n / 10) (digit_glyph false (n % 10) ∷ [])) (omega arith)
    (digits_more 63 (n / 10) (digit_glyph false (n % 10) ∷ []))
  where
    by_last : (b : Bool) (xs ys : List ℕ) → 1 ≤ length xs → 1 ≤ length ys → 1 ≤ length (if b then xs else ys)
    by_last true xs ys p q = p
    by_last false xs ys p q = q

one_written : (z : ℤ) → 1 ≤ length (signed_decimal z)
one_written (pos n) = one_digit n
one_written (negsuc n) = omega arith

-- each expression has a character
pub one_character : (t : Tree) → 1 ≤ size t
one_character (text s) = omega arith
one_character (int z) = one_written z
one_character (call name es) = omega arith
one_character (member e name) = omega arith
one_character (index e i) = omega arith

pub one_with : (t : Tree) → 1 ≤ size_with 1 1 t
one_with (text s) = omega arith
one_with (int z) = one_written z
one_with (call [] none) = omega arith
one_with (call [] (more e es)) = omega arith
one_with (call (c ∷ cs) es) = omega arith
one_with (member e name) = omega arith
one_with (index e i) = omega arith

-- ---- depths

later_under : (n x y : ℕ) (o p : Option ℕ)
    → 1 + max n (max (under o x) (under p y)) ≡ max (1 + n) (max (under (one_deeper o) x) (under (one_deeper p) y))
later_under n x y None None = omega arith
later_under n x y None (Some e) = omega arith
later_under n x y (Some d) None = omega arith
later_under n x y (Some d) (Some e) = omega arith

greater_under : (x : ℕ) (o p : Option ℕ) → under (greater o p) x ≡ max (under o x) (under p x)
greater_under x None None = omega arith
greater_under x None (Some e) = omega arith
greater_under x (Some d) None = omega arith
greater_under x (Some d) (Some e) = omega arith

both_under : (m n a b c d e g h k : ℕ) → e ≡ max a b → g ≡ max c d → h ≡ max m (max a c) → k ≡ max n (max b d)
    → max h k ≡ max (max m n) (max e g)
both_under m n a b c d e g h k p q r s = omega (arith, p, q, r, s)

mutual
  pub nesting_grows : (x y : ℕ) (t : Tree)
      → nesting_with x y t ≡ max (nesting_with 0 0 t) (max (under (item_depth t) x) (under (index_depth t) y))
  nesting_grows x y (text s) = omega arith
  nesting_grows x y (int z) = omega arith
  nesting_grows x y (call [] none) = omega arith
  nesting_grows x y (call [] (more e es)) = omega arith
  nesting_grows x y (call (c ∷ cs) es) =
      ap (λ n. 1 + n) (deepest_grows x y es)
      ∙ later_under (deepest_with 0 0 es) x y (depth_of_all (Some 0) None es) (depth_of_all None (Some 0) es)
  nesting_grows x y (member e name) =
      ap (λ n. 1 + n) (nesting_grows x y e)
      ∙ later_under (nesting_with 0 0 e) x y (item_depth e) (index_depth e)
  nesting_grows x y (index e i) =
      ap (λ n. 1 + n) (both_under (nesting_with 0 0 e) (nesting_with 0 0 i) (under (item_depth e) x)
      (under (item_depth i) x) (under (index_depth e) y) (under (index_depth i) y)
      (under (greater (item_depth e) (item_depth i)) x) (under (greater (index_depth e) (index_depth i)) y)
      (nesting_with x y e) (nesting_with x y i)
      (greater_under x (item_depth e) (item_depth i)) (greater_under y (index_depth e) (index_depth i))
      (nesting_grows x y e) (nesting_grows x y i))
      ∙ later_under (max (nesting_with 0 0 e) (nesting_with 0 0 i)) x y (greater (item_depth e) (item_depth i))
      (greater (index_depth e) (index_depth i))

  deepest_grows : (x y : ℕ) (es : Trees) → deepest_with x y es
      ≡ max (deepest_with 0 0 es)
      (max (under (depth_of_all (Some 0) None es) x) (under (depth_of_all None (Some 0) es) y))
  deepest_grows x y none = omega arith
  deepest_grows x y (more e es) =
      both_under (nesting_with 0 0 e) (deepest_with 0 0 es) (under (item_depth e) x)
      (under (depth_of_all (Some 0) None es) x) (under (index_depth e) y) (under (depth_of_all None (Some 0) es) y)
      (under (greater (item_depth e) (depth_of_all (Some 0) None es)) x)
      (under (greater (index_depth e) (depth_of_all None (Some 0) es)) y) (nesting_with x y e) (deepest_with x y es)
      (greater_under x (item_depth e) (depth_of_all (Some 0) None es))
      (greater_under y (index_depth e) (depth_of_all None (Some 0) es)) (nesting_grows x y e) (deepest_grows x y es)

-- ---- probes

pub deep_size : (n : ℕ) → size (deep n) ≡ n + 1
unfolding digits
deep_size zero = refl
deep_size (suc n) = omega (arith, deep_size n)

pub deep_nesting : (n : ℕ) → nesting (deep n) ≡ n
deep_nesting zero = refl
deep_nesting (suc n) = omega (arith, deep_nesting n)
