-- What holds of all that is found.
use Rattle.std.proofs.Common.{◌≡◌, List, [], ◌∷◌, ◌++◌, map, subst}
use Rattle.std.specs.List.{AllByRecursion}
use Rattle.bicep_found.specs.Found.{Found, found, unknown, mapped, then_found, both, all_found}

-- what is found has a property
abbrev pub WhereFound : {A : Type 0} → (A → Type 0) → Found A → Type 0
WhereFound P (found x) = P x
WhereFound P (unknown at) = Unit {0}

pub where-mapped : {A B : Type 0} (P : A → Type 0) (Q : B → Type 0) (g : A → B) (x : Found A)
    → WhereFound P x → ((y : A) → P y → Q (g y)) → WhereFound Q (mapped g x)
unfolding mapped
where-mapped P Q g (found y) h f = f y h
where-mapped P Q g (unknown at) h f = tt

pub where-both : {A B : Type 0} (P : A → Type 0) (Q : B → Type 0) (x : Found A) (y : Found B)
    → WhereFound P x → WhereFound Q y → WhereFound (λ p. P p.0 × Q p.1) (both x y)
unfolding both
where-both P Q (found x) (found y) h k = (h, k)
where-both P Q (found x) (unknown at) h k = tt
where-both P Q (unknown at) y h k = tt

pub where-then : {A B : Type 0} (P : A → Type 0) (Q : B → Type 0) (g : A → Found B) (x : Found A)
    → WhereFound P x → ((y : A) → P y → WhereFound Q (g y)) → WhereFound Q (then_found g x)
unfolding then_found
where-then P Q g (found y) h f = f y h
where-then P Q g (unknown at) h f = tt

pub where-found : {A : Type 0} (P : A → Type 0) (x : Found A) (y : A) → WhereFound P x → x ≡ found y → P y
where-found P x y h e = subst (WhereFound P) e h

-- ---- lists

pub all-append : {A : Type 0} (P : A → Type 0) (xs ys : List A) → AllByRecursion P xs → AllByRecursion P ys
    → AllByRecursion P (xs ++ ys)
all-append P [] ys h k = k
all-append P (x ∷ xs) ys h k = (h.0, all-append P xs ys h.1 k)

pub where-all : {A B : Type 0} (P : B → Type 0) (g : A → Found (List B)) (xs : List A)
    → ((x : A) → WhereFound (AllByRecursion P) (g x)) → WhereFound (AllByRecursion P) (all_found (map g xs))
unfolding all_found
where-all P g [] f = tt
where-all P g (x ∷ xs) f =
    where-mapped (λ p. AllByRecursion P p.0 × AllByRecursion P p.1) (AllByRecursion P) (λ p. p.0 ++ p.1)
    (both (g x) (all_found (map g xs)))
    (where-both (AllByRecursion P) (AllByRecursion P) (g x) (all_found (map g xs)) (f x) (where-all P g xs f))
    (λ p h. all-append P p.0 p.1 h.0 h.1)
