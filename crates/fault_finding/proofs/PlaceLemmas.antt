-- Loops over the places of a circle.
use Rattle.std.proofs.Common.{◌≡◌, ◌⊎◌, inl, inr, ℕ, zero, suc, ◌+◌, ◌<◌, ◌≤◌, Bool, true, false, true≢false, List, []}
use Rattle.std.proofs.Common.{◌∷◌, ◌++◌, ◌-◌, map, length, get_or, take, drop, refl, sym, ap, subst, ◌∙◌, arith}
use Rattle.std.proofs.Common.{append_assoc, length-drop}
use Rattle.std.specs.Prelude.{nat_eq, if◌then◌else◌}
use Rattle.std.proofs.lemmas.List.{at_drop_more, at_drop_all, append-nil}
use Rattle.std.proofs.lemmas.Bool.{cases_lt}
use Rattle.foundation.proofs.Comparisons.{eq_itself}
use Rattle.foundation.proofs.Lists.{next_item}
use Rattle.reading.specs.World.{Each}
use Rattle.deploy_cells.specs.Cells.{Cell, deployments}
use Rattle.plan_cells.specs.Children.{Has}
use Rattle.plan_filling.specs.Rows.{Row, fresh, row_at}
use Rattle.plan_refusals.specs.Refusals.{is_titled}
use Rattle.plan_tasks.specs.Answered.{is_asked}
use Rattle.plan_table.proofs.CountLemmas.{other_number}
use Rattle.fault_finding.specs.Circles.{place_in}

-- ---- lists

pub has_at : {A : Type 0} (xs : List A) (i : ℕ) (x : A) → i < length xs → x ≡ get_or xs i x → Has x xs
has_at [] i x h e = absurd (omega (arith, h))
has_at (y ∷ ys) zero x h e = inl (sym e)
has_at (y ∷ ys) (suc i) x h e = inr (has_at ys i x (omega (arith, h)) e)

-- the rest of a list, by its length
pub rest_is : {A : Type 0} (xs : List A) (k : ℕ) → take (length xs - k) (drop k xs) ≡ drop k xs
rest_is xs k = ap (λ n. take n (drop k xs)) (sym (length-drop k xs)) ∙ all (drop k xs)
  where
    all : {A : Type 0} (ys : List A) → take (length ys) ys ≡ ys
    all [] = refl
    all (y ∷ ys) = ap (λ zs. y ∷ zs) (all ys)

pub each_at : {A : Type 0} (P : A → Type 0) (xs : List A) (i : ℕ) (x : A) → Each P xs → i < length xs
    → x ≡ get_or xs i x → P x
each_at P [] i x p h e = absurd (omega (arith, h))
each_at P (y ∷ ys) zero x p h e = subst P (sym e) p.0
each_at P (y ∷ ys) (suc i) x p h e = each_at P ys i x p.1 (omega (arith, h)) e

pub each_more : {A : Type 0} (P : A → Type 0) (xs : List A) (i : ℕ) (x : A) → i < length xs → x ≡ get_or xs i x
    → (Each P (drop i xs) → Each P xs) → P x → Each P (drop (i + 1) xs) → Each P xs
each_more P xs i x h e k p r = k (subst (Each P) (sym (next_item xs i x h e)) (p, r))

pub each_all : {A : Type 0} (P : A → Type 0) (xs : List A) (i : ℕ) → length xs ≤ i → (Each P (drop i xs) → Each P xs)
    → Each P xs
each_all P xs i h k = k (subst (Each P) (sym (at_drop_all (λ ys. ys) xs i h)) tt)

pub map_more : {A B : Type 0} (f : A → B) (xs : List A) (i : ℕ) (x : A) (done : List B) → i < length xs
    → x ≡ get_or xs i x → done ++ map f (drop i xs) ≡ map f xs
    → (done ++ f x ∷ []) ++ map f (drop (i + 1) xs) ≡ map f xs
map_more f xs i x done h e k =
    append_assoc done (f x ∷ []) (map f (drop (i + 1) xs))
    ∙ ap (λ ys. done ++ map f ys) (sym (next_item xs i x h e)) ∙ k

pub map_all : {A B : Type 0} (f : A → B) (xs : List A) (i : ℕ) (done : List B) → length xs ≤ i
    → done ++ map f (drop i xs) ≡ map f xs → done ≡ map f xs
map_all f xs i done h k =
    sym (append-nil done) ∙ ap (λ ys. done ++ map f ys) (sym (at_drop_all (λ ys. ys) xs i h)) ∙ k

-- ---- the first place of a number

pub place_here : (w p : ℕ) (xs : List ℕ) → p ≡ w → place_in w (p ∷ xs) ≡ 0
place_here w p xs e = ap (λ b. if b then 0 else suc (place_in w xs)) (subst (λ x. nat_eq p x ≡ true) e (eq_itself p))

pub place_later : (w p : ℕ) (xs : List ℕ) → (p ≡ w → ⊥) → place_in w (p ∷ xs) ≡ suc (place_in w xs)
place_later w p xs n = ap (λ b. if b then 0 else suc (place_in w xs)) (other_number p w n)

pub place_found : (w : ℕ) (xs : List ℕ) (i : ℕ) → i < length xs → place_in w xs ≡ i + place_in w (drop i xs)
    → get_or xs i 0 ≡ w → i ≡ place_in w xs
place_found w xs i h k same =
    let here : place_in w (drop i xs) ≡ 0 =
    at_drop_more (place_in w) xs i 0 h ∙ place_here w (get_or xs i 0) (drop (i + 1) xs) same in
    omega (arith, k, here)

pub place_further : (w : ℕ) (xs : List ℕ) (i : ℕ) → i < length xs → place_in w xs ≡ i + place_in w (drop i xs)
    → (get_or xs i 0 ≡ w → ⊥) → place_in w xs ≡ (i + 1) + place_in w (drop (i + 1) xs)
place_further w xs i h k other =
    let later : place_in w (drop i xs) ≡ suc (place_in w (drop (i + 1) xs)) =
    at_drop_more (place_in w) xs i 0 h ∙ place_later w (get_or xs i 0) (drop (i + 1) xs) other in
    omega (arith, k, later)

pub place_nowhere : (w : ℕ) (xs : List ℕ) (i : ℕ) → length xs ≤ i → place_in w xs ≡ i + place_in w (drop i xs)
    → place_in w xs ≡ i
place_nowhere w xs i h k =
    let none : place_in w (drop i xs) ≡ 0 = at_drop_all (place_in w) xs i h in omega (arith, k, none)

pub place_within : (w : ℕ) (xs : List ℕ) → place_in w xs ≤ length xs
place_within w [] = omega arith
place_within w (x ∷ xs) = by_test (nat_eq x w) (place_within w xs)
  where
    by_test : (b : Bool) → place_in w xs ≤ length xs → (if b then 0 else suc (place_in w xs)) ≤ length (x ∷ xs)
    by_test true h = omega arith
    by_test false h = omega (arith, h)

-- ---- rows that are listed

pub past : (rs : List Row) (i : ℕ) → length rs ≤ i → row_at rs i ≡ fresh (deployments [])
past [] i h = refl
past (r ∷ rs) zero h = absurd (omega (arith, h))
past (r ∷ rs) (suc i) h = past rs i (omega (arith, h))

-- a row that passes a test that the row of no place passes is listed
listed_by : (test : Cell → Bool) (rs : List Row) (i : ℕ) → test (deployments []) ≡ false
    → test (row_at rs i).cell ≡ true → (i < length rs) ⊎ (length rs ≤ i) → i < length rs
listed_by test rs i fails passes (inl h) = h
listed_by test rs i fails passes (inr h) =
    absurd (true≢false (sym passes ∙ ap (λ (r : Row). test r.cell) (past rs i h) ∙ fails))

pub titled_listed : (rs : List Row) (i : ℕ) → is_titled (row_at rs i).cell ≡ true → i < length rs
titled_listed rs i e = listed_by is_titled rs i refl e (cases_lt i (length rs))

pub asked_listed : (rs : List Row) (i : ℕ) → is_asked (row_at rs i).cell ≡ true → i < length rs
asked_listed rs i e = listed_by is_asked rs i refl e (cases_lt i (length rs))
