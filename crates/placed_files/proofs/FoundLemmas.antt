-- What holds of all that is found.
use Rattle.std.proofs.Common.{◌≡◌, subst}
use Rattle.bicep_found.specs.Found.{Found, found, unknown, mapped, then_found, both, beside}

-- it holds of what is found, if anything is
abbrev pub Always : {A : Type 0} → (A → Type 0) → Found A → Type 0
Always P (found x) = P x
Always P (unknown at) = Unit {0}

pub weaker : {A : Type 0} (P Q : A → Type 0) → ((x : A) → P x → Q x) → (r : Found A) → Always P r → Always Q r
weaker P Q f (found x) h = f x h
weaker P Q f (unknown at) h = tt

pub always_mapped : {A B : Type 0} (P : B → Type 0) (f : A → B) (r : Found A) → Always (λ x. P (f x)) r
    → Always P (mapped f r)
unfolding mapped
always_mapped P f (found x) h = h
always_mapped P f (unknown at) h = tt

-- of all that a function returns
pub always_made : {A B : Type 0} (P : B → Type 0) (f : A → B) (r : Found A) → ((x : A) → P (f x))
    → Always P (mapped f r)
unfolding mapped
always_made P f (found x) h = h x
always_made P f (unknown at) h = tt

pub always_then : {A B : Type 0} (P : B → Type 0) (f : A → Found B) (r : Found A) → ((x : A) → Always P (f x))
    → Always P (then_found f r)
unfolding then_found
always_then P f (found x) h = h x
always_then P f (unknown at) h = tt

beside_second : {A B : Type 0} (Q : B → Type 0) (x : A) (q : Found B) → Always Q q
    → Always (λ p. Q p.1) (beside x q)
beside_second Q x (found y) h = h
beside_second Q x (unknown at) h = tt

-- of the second of two
pub always_second : {A B : Type 0} (Q : B → Type 0) (r : Found A) (q : Found B) → Always Q q
    → Always (λ p. Q p.1) (both r q)
unfolding both
always_second Q (found x) q h = beside_second Q x q h
always_second Q (unknown at) q h = tt

beside_both : {A B : Type 0} (P : A → Type 0) (Q : B → Type 0) (x : A) (q : Found B) → P x → Always Q q
    → Always (λ p. P p.0 × Q p.1) (beside x q)
beside_both P Q x (found y) h k = (h, k)
beside_both P Q x (unknown at) h k = tt

pub always_both : {A B : Type 0} (P : A → Type 0) (Q : B → Type 0) (r : Found A) (q : Found B) → Always P r
    → Always Q q → Always (λ p. P p.0 × Q p.1) (both r q)
unfolding both
always_both P Q (found x) q h k = beside_both P Q x q h k
always_both P Q (unknown at) q h k = tt

pub is_found : {A : Type 0} (P : A → Type 0) (r : Found A) (x : A) → Always P r → r ≡ found x → P x
is_found P r x h e = subst (Always P) e h
