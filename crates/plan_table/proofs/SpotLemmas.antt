-- Spots of scopes and of instances, and the cells that they are.
use Rattle.std.proofs.Common.{◌≡◌, inl, inr, ℕ, zero, suc, ◌+◌, ◌<◌, ◌≤◌, Bool, true, false, List, [], ◌∷◌, ◌++◌}
use Rattle.std.proofs.Common.{map, length, take, get_or, Option, Some, None, refl, sym, ap, subst, ◌∙◌, arith}
use Rattle.std.proofs.lemmas.List.{map-append}
use Rattle.std.specs.Prelude.{slice_get, if◌then◌else◌}
use Rattle.foundation.proofs.Comparisons.{lt_suc_or_is}
use Rattle.reading.specs.World.{Each}
use Rattle.plan_filling.specs.Cells.{Step, step, Cell}
use Rattle.plan_filling.specs.Resources.{Listed}
use Rattle.plan_filling.specs.Children.{Has, numbers_from, steps}
use Rattle.plan_filling.proofs.ListLemmas.{has_left, has_right}
use Rattle.plan_table.specs.declared.line.Spot.{Spot}
use Rattle.plan_table.specs.declared.line.Spot.TheVariants.{Count}
use Rattle.plan_table.specs.Spots.{below, unless_existing, counts_below}

pub has_below : (f : ℕ → Spot) (n i : ℕ) → i < n → Has (f i) (below f n)
has_below f zero i h = absurd (omega arith)
has_below f (suc n) i h =
    elim (lt_suc_or_is i n h) [
      | inl l ↦ has_left (f i) (below f n) (f n ∷ []) (has_below f n i l)
      | inr e ↦ has_right (f i) (below f n) (f n ∷ []) (inl (ap f (sym e)))
    ]

pub each_joined : {A : Type 0} (P : A → Type 0) (xs ys : List A) → Each P xs → Each P ys → Each P (xs ++ ys)
each_joined P [] ys a b = b
each_joined P (x ∷ xs) ys a b = (a.0, each_joined P xs ys a.1 b)

pub each_below : (P : Spot → Type 0) (f : ℕ → Spot) (n : ℕ) → ((i : ℕ) → i < n → P (f i)) → Each P (below f n)
each_below P f zero h = tt
each_below P f (suc n) h =
    each_joined P (below f n) (f n ∷ []) (each_below P f n (λ i l. h i (omega (arith, l)))) (h n (omega arith), tt)

take_next : {A : Type 0} (n : ℕ) (xs : List A) (d : A) → n < length xs
    → take (suc n) xs ≡ take n xs ++ get_or xs n d ∷ []
take_next n [] d h = absurd (omega arith)
take_next zero (x ∷ xs) d h = refl
take_next (suc n) (x ∷ xs) d h = ap (λ ys. x ∷ ys) (take_next n xs d (omega arith))

take_whole : {A : Type 0} (xs : List A) → take (length xs) xs ≡ xs
take_whole [] = refl
take_whole (x ∷ xs) = ap (λ ys. x ∷ ys) (take_whole xs)

map_taken : {A : Type 0} (h : Spot → Cell) (f : ℕ → Spot) (k : A → Cell) (xs : List A) (d : A)
    → ((i : ℕ) → h (f i) ≡ k (get_or xs i d)) → (n : ℕ) → n ≤ length xs → map h (below f n) ≡ map k (take n xs)
map_taken h f k xs d e zero l = refl
map_taken h f k xs d e (suc n) l =
    map-append h (below f n) (f n ∷ [])
    ∙ ap (λ ys. ys ++ h (f n) ∷ []) (map_taken h f k xs d e n (omega (arith, l)))
    ∙ ap (λ c. map k (take n xs) ++ c ∷ []) (e n)
    ∙ sym (ap (map k) (take_next n xs d (omega (arith, l))) ∙ map-append k (take n xs) (get_or xs n d ∷ []))

-- the spots of all places of a list are the cells of its elements
pub map_below : {A : Type 0} (h : Spot → Cell) (f : ℕ → Spot) (k : A → Cell) (xs : List A) (d : A)
    → ((i : ℕ) → h (f i) ≡ k (get_or xs i d)) → map h (below f (length xs)) ≡ map k xs
map_below h f k xs d e = map_taken h f k xs d e (length xs) (omega arith) ∙ ap (map k) (take_whole xs)

-- ---- instances

steps_more : (r i n : ℕ) → steps r i (suc n) ≡ steps r i n ++ step r (i + n) ∷ []
steps_more r i zero = ap (λ k. step r k ∷ []) (let e : i ≡ i + 0 = omega arith in e)
steps_more r i (suc n) =
    ap (λ ss. step r i ∷ ss) (steps_more r (suc i) n
    ∙ ap (λ k. steps r (suc i) n ++ step r k ∷ []) (let e : suc i + n ≡ i + suc n = omega arith in e))

pub map_steps : (h : Spot → Cell) (f : ℕ → Spot) (k : Step → Cell) (r : ℕ) → ((i : ℕ) → h (f i) ≡ k (step r i))
    → (n : ℕ) → map h (below f n) ≡ map k (steps r 0 n)
map_steps h f k r e zero = refl
map_steps h f k r e (suc n) =
    map-append h (below f n) (f n ∷ [])
    ∙ ap (λ ys. ys ++ h (f n) ∷ []) (map_steps h f k r e n)
    ∙ ap (λ c. map k (steps r 0 n) ++ c ∷ []) (e n)
    ∙ sym (ap (map k) (steps_more r 0 n ∙ ap (λ j. steps r 0 n ++ step r j ∷ []) (let z : 0 + n ≡ n = omega arith in z))
    ∙ map-append k (steps r 0 n) (step r n ∷ []))

-- ---- resources that are not existing

by_existing : (b : Bool) (r : ℕ) (ns ms os : List ℕ) → ns ≡ ms ++ os
    → (if b then ns else r ∷ ns) ≡ (if b then ms else r ∷ ms) ++ os
by_existing true r ns ms os e = e
by_existing false r ns ms os e = ap (λ z. r ∷ z) e

one_number : (b : Bool) (r s : ℕ) → r ≡ s → (if b then [] else r ∷ []) ≡ (if b then [] else s ∷ [])
one_number true r s e = refl
one_number false r s e = ap (λ k. k ∷ []) e

numbers_more : (r : ℕ) (xs : List Listed) (x : Listed)
    → numbers_from r (xs ++ x ∷ []) ≡ numbers_from r xs ++ (if x.declaration.existing then [] else (r + length xs) ∷ [])
numbers_more r [] x = one_number x.declaration.existing r (r + 0) (let e : r ≡ r + 0 = omega arith in e)
numbers_more r (y ∷ xs) x =
    by_existing y.declaration.existing r (numbers_from (suc r) (xs ++ x ∷ [])) (numbers_from (suc r) xs)
    (if x.declaration.existing then [] else (r + suc (length xs)) ∷ [])
    (numbers_more (suc r) xs x
    ∙ ap (λ ns. numbers_from (suc r) xs ++ ns) (one_number x.declaration.existing (suc r + length xs)
    (r + suc (length xs)) (let e : suc r + length xs ≡ r + suc (length xs) = omega arith in e)))

pub got : {A : Type 0} (xs : List A) (n : ℕ) (d : A) → n < length xs → slice_get xs n ≡ Some (get_or xs n d)
got [] n d h = absurd (omega arith)
got (x ∷ xs) zero d h = refl
got (x ∷ xs) (suc n) d h = got xs n d (omega arith)

length_taken : {A : Type 0} (n : ℕ) (xs : List A) → n ≤ length xs → length (take n xs) ≡ n
length_taken zero xs h = refl
length_taken (suc n) [] h = absurd (omega arith)
length_taken (suc n) (x ∷ xs) h = ap suc (length_taken n xs (omega arith))

map_one : (h : Spot → Cell) (k : ℕ → Cell) (s : Spot) (n : ℕ) (b : Bool) → h s ≡ k n
    → map h (if b then [] else s ∷ []) ≡ map k (if b then [] else n ∷ [])
map_one h k s n true e = refl
map_one h k s n false e = ap (λ c. c ∷ []) e

map_unless : (h : Spot → Cell) (k : ℕ → Cell) (s : Spot) (n m : ℕ) (x : Listed) (o : Option Listed) → o ≡ Some x
    → h s ≡ k n → n ≡ m → map h (unless_existing o s) ≡ map k (if x.declaration.existing then [] else m ∷ [])
map_unless h k s n m x o e f g =
    ap (λ u. map h (unless_existing u s)) e ∙ map_one h k s n x.declaration.existing f
    ∙ ap (map k) (one_number x.declaration.existing n m g)

counts_taken : (h : Spot → Cell) (k : ℕ → Cell) (g : ℕ) (xs : List Listed) (d : Listed)
    → ((i : ℕ) → h (Count g i) ≡ k i) → (n : ℕ) → n ≤ length xs
    → map h (counts_below g xs n) ≡ map k (numbers_from 0 (take n xs))
counts_taken h k g xs d e zero l = refl
counts_taken h k g xs d e (suc n) l =
    map-append h (counts_below g xs n) (unless_existing (slice_get xs n) (Count g n))
    ∙ ap (λ ys. ys ++ map h (unless_existing (slice_get xs n) (Count g n)))
    (counts_taken h k g xs d e n (omega (arith, l)))
    ∙ ap (λ zs. map k (numbers_from 0 (take n xs)) ++ zs)
    (map_unless h k (Count g n) n (0 + length (take n xs)) (get_or xs n d) (slice_get xs n)
    (got xs n d (omega (arith, l))) (e n) (let t = length_taken n xs (omega (arith, l)) in omega (arith, t)))
    ∙ sym (ap (λ ys. map k (numbers_from 0 ys)) (take_next n xs d (omega (arith, l)))
    ∙ ap (map k) (numbers_more 0 (take n xs) (get_or xs n d))
    ∙ map-append k (numbers_from 0 (take n xs))
    (if (get_or xs n d).declaration.existing then [] else (0 + length (take n xs)) ∷ []))

counts_of : (h : Spot → Cell) (k : ℕ → Cell) (g : ℕ) (xs : List Listed) → ((i : ℕ) → h (Count g i) ≡ k i)
    → (n : ℕ) → n ≡ length xs → map h (counts_below g xs n) ≡ map k (numbers_from 0 (take n xs))
counts_of h k g [] e zero l = refl
counts_of h k g [] e (suc n) l = absurd (omega (arith, l))
counts_of h k g (x ∷ xs) e n l = counts_taken h k g (x ∷ xs) x e n (omega (arith, l))

-- the spots of counts are the cells of the numbers of resources that are not existing
pub map_counts : (h : Spot → Cell) (k : ℕ → Cell) (g : ℕ) (xs : List Listed) → ((i : ℕ) → h (Count g i) ≡ k i)
    → map h (counts_below g xs (length xs)) ≡ map k (numbers_from 0 xs)
map_counts h k g xs e =
    counts_of h k g xs e (length xs) refl ∙ ap (λ ys. map k (numbers_from 0 ys)) (take_whole xs)

kept_count : (x : Listed) (s : Spot) (o : Option Listed) → o ≡ Some x → x.declaration.existing ≡ false
    → Has s (unless_existing o s)
kept_count x s o e f =
    subst (λ u. Has s (unless_existing u s)) (sym e)
    (subst (λ b. Has s (if b then [] else s ∷ [])) (sym f) (inl refl))

pub has_count : (g : ℕ) (xs : List Listed) (n r : ℕ) (x : Listed) → r < n → slice_get xs r ≡ Some x
    → x.declaration.existing ≡ false → Has (Count g r) (counts_below g xs n)
has_count g xs zero r x h e f = absurd (omega (arith, h))
has_count g xs (suc n) r x h e f =
    elim (lt_suc_or_is r n h) [
      | inl l ↦ has_left (Count g r) (counts_below g xs n) (unless_existing (slice_get xs n) (Count g n))
          (has_count g xs n r x l e f)
      | inr q ↦ subst (λ m. Has (Count g r) (counts_below g xs n ++ unless_existing (slice_get xs m) (Count g m))) q
          (has_right (Count g r) (counts_below g xs n) (unless_existing (slice_get xs r) (Count g r))
          (kept_count x (Count g r) (slice_get xs r) e f))
    ]

each_one : (P : Spot → Type 0) (s : Spot) (b : Bool) → (b ≡ false → P s) → Each P (if b then [] else s ∷ [])
each_one P s true h = tt
each_one P s false h = (h refl, tt)

each_unless : (P : Spot → Type 0) (s : Spot) (o : Option Listed)
    → ((x : Listed) → o ≡ Some x → x.declaration.existing ≡ false → P s) → Each P (unless_existing o s)
each_unless P s None h = tt
each_unless P s (Some x) h = each_one P s x.declaration.existing (h x refl)

pub each_count : (P : Spot → Type 0) (g : ℕ) (xs : List Listed)
    → ((r : ℕ) (x : Listed) → slice_get xs r ≡ Some x → x.declaration.existing ≡ false → P (Count g r)) → (n : ℕ)
    → Each P (counts_below g xs n)
each_count P g xs h zero = tt
each_count P g xs h (suc n) =
    each_joined P (counts_below g xs n) (unless_existing (slice_get xs n) (Count g n)) (each_count P g xs h n)
    (each_unless P (Count g n) (slice_get xs n) (h n))
