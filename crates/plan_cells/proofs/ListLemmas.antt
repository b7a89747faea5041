-- Lists in which each is there once, and look-ups by names and by numbers.
use Rattle.std.proofs.Common.{◌≡◌, ◌⊎◌, inl, inr, ℕ, zero, suc, ◌+◌, ◌<◌, ◌≤◌, Bool, true, false, List, [], ◌∷◌, ◌++◌}
use Rattle.std.proofs.Common.{map}
use Rattle.std.proofs.Common.{Some, None, refl, sym, ap, subst, arith}
use Rattle.std.specs.Prelude.{bytes_eq, slice_get, option_and_then, if◌then◌else◌}
use Rattle.template_parameters.specs.Look.{fold}
use Rattle.foundation.proofs.Words.{eq_word}
use Rattle.deploy_cells.specs.Cells.{Step, step}
use Rattle.plan_cells.specs.Resources.{Listed, unless_existing}
use Rattle.plan_cells.specs.Sites.{first_with}
use Rattle.plan_cells.specs.Children.{Has, AreApart, numbers_from, steps}

-- in a list joined of two
pub has_joined : {A : Type 0} (x : A) (xs ys : List A) → Has x (xs ++ ys) → Has x xs ⊎ Has x ys
has_joined x [] ys h = inr h
has_joined x (y ∷ xs) ys (inl e) = inl (inl e)
has_joined x (y ∷ xs) ys (inr h) = elim (has_joined x xs ys h) [ inl a ↦ inl (inr a) | inr b ↦ inr b ]

pub has_left : {A : Type 0} (x : A) (xs ys : List A) → Has x xs → Has x (xs ++ ys)
has_left x [] ys h = absurd h
has_left x (y ∷ xs) ys (inl e) = inl e
has_left x (y ∷ xs) ys (inr h) = inr (has_left x xs ys h)

pub has_right : {A : Type 0} (x : A) (xs ys : List A) → Has x ys → Has x (xs ++ ys)
has_right x [] ys h = h
has_right x (y ∷ xs) ys h = inr (has_right x xs ys h)

pub apart_joined : {A : Type 0} (xs ys : List A) → AreApart xs → AreApart ys → ((x : A) → Has x xs → Has x ys → ⊥)
    → AreApart (xs ++ ys)
apart_joined [] ys a b h = b
apart_joined (x ∷ xs) ys a b h = (
  λ e. elim (has_joined x xs ys e) [ inl l ↦ a.0 l | inr r ↦ h x (inl refl) r ],
  apart_joined xs ys a.1 b (λ z i. h z (inr i)),
)

-- what each is of
pub has_mapped : {A B : Type 0} (f : A → B) (y : B) (xs : List A) → Has y (map f xs) → (x : A) × (Has x xs × (f x ≡ y))
has_mapped f y [] h = absurd h
has_mapped f y (x ∷ xs) (inl e) = (x, (inl refl, e))
has_mapped f y (x ∷ xs) (inr h) = let r = has_mapped f y xs h in (r.0, (inr r.1.0, r.1.1))

pub has_map : {A B : Type 0} (f : A → B) (x : A) (xs : List A) → Has x xs → Has (f x) (map f xs)
has_map f x [] h = absurd h
has_map f x (y ∷ ys) (inl e) = inl (ap f e)
has_map f x (y ∷ ys) (inr h) = inr (has_map f x ys h)

pub apart_map : {A B : Type 0} (f : A → B) → ((x y : A) → f x ≡ f y → x ≡ y) → (xs : List A) → AreApart xs
    → AreApart (map f xs)
apart_map f one [] a = tt
apart_map f one (x ∷ xs) a = (
  λ h. let r = has_mapped f (f x) xs h in a.0 (subst (λ z. Has z xs) (one r.0 x r.1.1) r.1.0),
  apart_map f one xs a.1,
)

-- what has no name among these is not found by it
by_test : {A : Type 0} (f : A → List ℕ) (x : List ℕ) (a : A) (ys : List A) (b : Bool)
    → bytes_eq x (fold (f a)) ≡ b → (Has x (map (λ z. fold (f z)) (a ∷ ys)) → ⊥)
    → first_with (λ z. bytes_eq x (fold (f z))) ys ≡ None
    → (if b then Some a else first_with (λ z. bytes_eq x (fold (f z))) ys) ≡ None
by_test f x a ys true e h r = absurd (h (inl (sym (eq_word x (fold (f a)) e))))
by_test f x a ys false e h r = r

pub not_named : {A : Type 0} (f : A → List ℕ) (x : List ℕ) (ys : List A)
    → (Has x (map (λ z. fold (f z)) ys) → ⊥) → first_with (λ z. bytes_eq x (fold (f z))) ys ≡ None
not_named f x [] h = refl
not_named f x (a ∷ ys) h =
    by_test f x a ys (bytes_eq x (fold (f a))) refl h (not_named f x ys (λ i. h (inr i)))

-- numbers from r on are not below r
by_existing : (m r : ℕ) (x : Listed) (xs : List Listed) (b : Bool) → (Has m (numbers_from (suc r) xs) → suc r ≤ m)
    → Has m (if b then numbers_from (suc r) xs else r ∷ numbers_from (suc r) xs) → r ≤ m
by_existing m r x xs true f h = let l = f h in omega (arith, l)
by_existing m r x xs false f (inl e) = omega (arith, e)
by_existing m r x xs false f (inr h) = let l = f h in omega (arith, l)

pub numbers_above : (m r : ℕ) (xs : List Listed) → Has m (numbers_from r xs) → r ≤ m
numbers_above m r [] h = absurd h
numbers_above m r (x ∷ xs) h = by_existing m r x xs x.declaration.existing (numbers_above m (suc r) xs) h

apart_by : (r : ℕ) (xs : List Listed) (b : Bool) → AreApart (numbers_from (suc r) xs)
    → AreApart (if b then numbers_from (suc r) xs else r ∷ numbers_from (suc r) xs)
apart_by r xs true a = a
apart_by r xs false a = (λ h. let l = numbers_above r (suc r) xs h in absurd (omega (arith, l)), a)

pub numbers_apart : (r : ℕ) (xs : List Listed) → AreApart (numbers_from r xs)
numbers_apart r [] = tt
numbers_apart r (x ∷ xs) = apart_by r xs x.declaration.existing (numbers_apart (suc r) xs)

-- a number that is not among them is that of no resource, or of one that is existing
first_of_numbers : (r : ℕ) (x : Listed) (xs : List Listed) (b : Bool) → x.declaration.existing ≡ b
    → (Has r (if b then numbers_from (suc r) xs else r ∷ numbers_from (suc r) xs) → ⊥)
    → (if b then None else Some x) ≡ None
first_of_numbers r x xs true e h = refl
first_of_numbers r x xs false e h = absurd (h (inl refl))

later_numbers : (m r : ℕ) (x : Listed) (xs : List Listed) (b : Bool)
    → (Has m (if b then numbers_from (suc r) xs else r ∷ numbers_from (suc r) xs) → ⊥)
    → Has m (numbers_from (suc r) xs) → ⊥
later_numbers m r x xs true h i = h i
later_numbers m r x xs false h i = h (inr i)

pub not_numbered : (xs : List Listed) (r n : ℕ) → (Has (r + n) (numbers_from r xs) → ⊥)
    → option_and_then unless_existing (slice_get xs n) ≡ None
not_numbered [] r n h = refl
not_numbered (x ∷ xs) r zero h =
    let e : r + 0 ≡ r = omega arith in
    first_of_numbers r x xs x.declaration.existing refl (subst (λ (m : ℕ). Has m (numbers_from r (x ∷ xs)) → ⊥) e h)
not_numbered (x ∷ xs) r (suc n) h =
    let e : r + suc n ≡ suc r + n = omega arith in
    not_numbered xs (suc r) n
    (subst (λ (m : ℕ). Has m (numbers_from (suc r) xs) → ⊥) e
    (later_numbers (r + suc n) r x xs x.declaration.existing h))

-- the instances from index i on
pub of_steps : (s : Step) (r i n : ℕ) → Has s (steps r i n) → (s.resource ≡ r) × ((i ≤ s.copy) × (s.copy < i + n))
of_steps s r i zero h = absurd h
of_steps s r i (suc n) (inl e) = (
  ap (λ (x : Step). x.resource) (sym e),
  (
    let c : i ≡ s.copy = ap (λ (x : Step). x.copy) e in omega (arith, c),
    let c : i ≡ s.copy = ap (λ (x : Step). x.copy) e in omega (arith, c),
  ),
)
of_steps s r i (suc n) (inr h) =
    let f = of_steps s r (suc i) n h in
    let a : suc i ≤ s.copy = f.1.0 in
    let b : s.copy < suc i + n = f.1.1 in (f.0, (omega (arith, a), omega (arith, b)))

pub steps_apart : (r i n : ℕ) → AreApart (steps r i n)
steps_apart r i zero = tt
steps_apart r i (suc n) = (
  λ h. let f = of_steps (step r i) r (suc i) n h in let a : suc i ≤ i = f.1.0 in absurd (omega (arith, a)),
  steps_apart r (suc i) n,
)

in_steps : (r i n k : ℕ) → k < n → Has (step r (i + k)) (steps r i n)
in_steps r i zero k l = absurd (omega (arith, l))
in_steps r i (suc n) zero l = inl (ap (step r) (let e : i ≡ i + 0 = omega arith in e))
in_steps r i (suc n) (suc k) l =
    inr (subst (λ (m : ℕ). Has (step r m) (steps r (suc i) n)) (let e : suc i + k ≡ i + suc k = omega arith in e)
    (in_steps r (suc i) n k (omega (arith, l))))

pub has_step : (s : Step) (n : ℕ) → s.copy < n → Has s (steps s.resource 0 n)
has_step s n l =
    subst (λ (m : ℕ). Has (step s.resource m) (steps s.resource 0 n)) (omega arith)
    (in_steps s.resource 0 n s.copy l)
