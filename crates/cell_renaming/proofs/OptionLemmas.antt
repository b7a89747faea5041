-- What options hold.
use Rattle.std.proofs.Common.{◌≡◌, Option, Some, None, refl, ap₂}
use Rattle.std.specs.Prelude.{option_map, option_and_then}
use Rattle.foundation.proofs.Options.{same_some}
use Rattle.cell_renaming.specs.Renaming.{with_both}

pub none_some : {A B : Type 0} (x : A) → None ≡ Some x → B
none_some x h = absurd cc

pub record Both {A B C : Type 0} (o : Option A) (u : Option B) (f : A → B → C) (c : C) : Type 0 where
  pub left : A
  pub right : B
  pub first : o ≡ Some left
  pub second : u ≡ Some right
  pub made : f left right ≡ c

pub of_both : {A B C : Type 0} (o : Option A) (u : Option B) (f : A → B → C) (c : C) → with_both o u f ≡ Some c
    → Both o u f c
of_both None u f c h = none_some c h
of_both (Some x) None f c h = none_some c h
of_both (Some x) (Some y) f c h =
    record { left = x; right = y; first = refl; second = refl; made = same_some h }

pub to_both : {A B C : Type 0} (o : Option A) (u : Option B) (f : A → B → C) (x : A) (y : B) → o ≡ Some x
    → u ≡ Some y → with_both o u f ≡ Some (f x y)
to_both o u f x y h q = ap₂ (λ o u. with_both o u f) h q

pub record Mapped {A B : Type 0} (o : Option A) (f : A → B) (b : B) : Type 0 where
  pub left : A
  pub first : o ≡ Some left
  pub made : f left ≡ b

pub of_map : {A B : Type 0} (o : Option A) (f : A → B) (b : B) → option_map f o ≡ Some b → Mapped o f b
of_map None f b h = none_some b h
of_map (Some x) f b h = record { left = x; first = refl; made = same_some h }

-- what is found through an option
pub record Through {A B : Type 0} (o : Option A) (f : A → Option B) (b : B) : Type 0 where
  pub left : A
  pub first : o ≡ Some left
  pub made : f left ≡ Some b

pub of_then : {A B : Type 0} (o : Option A) (f : A → Option B) (b : B) → option_and_then f o ≡ Some b → Through o f b
of_then None f b h = none_some b h
of_then (Some x) f b h = record { left = x; first = refl; made = h }

-- an option is something or nothing
pub data Either {A : Type 0} (o : Option A) : Type 0 where
  there : (x : A) → o ≡ Some x → Either o
  nowhere : o ≡ None → Either o

pub either : {A : Type 0} (o : Option A) → Either o
either None = nowhere refl
either (Some x) = there x refl
