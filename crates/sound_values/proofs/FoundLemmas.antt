-- What is found of parts.
use Rattle.std.proofs.Common.{◌≡◌, Option, Some, None, refl}
use Rattle.bicep_found.specs.Found.{Found, found, unknown, mapped, then_found, both}
use Rattle.foundation.specs.Options.{or_else}

abbrev the_or : {A : Type 0} → A → Found A → A
the_or y (found x) = x
the_or y (unknown at) = y

pub same_found : {A : Type 0} (x y : A) → found x ≡ found y → x ≡ y
same_found x y e = cc

pub record Mapped {A B : Type 0} (a : Found A) (f : A → B) (y : B) : Type 0 where
  pub part : A
  pub is : a ≡ found part
  pub made : f part ≡ y

pub of_mapped : {A B : Type 0} (f : A → B) (a : Found A) (y : B) → mapped f a ≡ found y → Mapped a f y
unfolding mapped
of_mapped f (found x) y e = record { part = x; is = refl; made = same_found (f x) y e }
of_mapped f (unknown at) y e = absurd cc

pub record Then {A B : Type 0} (a : Found A) (f : A → Found B) (y : B) : Type 0 where
  pub part : A
  pub is : a ≡ found part
  pub made : f part ≡ found y

pub of_then : {A B : Type 0} (f : A → Found B) (a : Found A) (y : B) → then_found f a ≡ found y → Then a f y
unfolding then_found
of_then f (found x) y e = record { part = x; is = refl; made = e }
of_then f (unknown at) y e = absurd cc

pub record Both {A B : Type 0} (a : Found A) (b : Found B) (p : A × B) : Type 0 where
  pub first : a ≡ found p.0
  pub second : b ≡ found p.1

pub of_both : {A B : Type 0} (a : Found A) (b : Found B) (p : A × B) → both a b ≡ found p → Both a b p
unfolding both
of_both (found x) (found y) p e = record { first = cc; second = cc }
of_both (found x) (unknown at) p e = absurd cc
of_both (unknown at) b p e = absurd cc

-- neither is there
pub first_none : {A : Type 0} (a b : Option A) → or_else a b ≡ None → a ≡ None
first_none None b e = refl
first_none (Some x) b e = absurd cc

pub second_none : {A : Type 0} (a b : Option A) → or_else a b ≡ None → b ≡ None
second_none None b e = e
second_none (Some x) b e = absurd cc
