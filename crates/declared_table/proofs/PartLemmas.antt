-- What a table has of symbols that are in it, and of others.
use Rattle.std.proofs.Common.{◌≡◌, Bool, true, false, subst}
use Rattle.std.specs.Prelude.{if◌then◌else◌}

-- what is had of the first where the condition holds, and of the second elsewhere, is had of either
pub part_there : {A : Type 0} (P : A → Type 0) (b : Bool) (x y : A) → true ≡ b → P x → P (if b then x else y)
part_there P b x y e h = subst (λ c. P (if c then x else y)) e h

pub part_absent : {A : Type 0} (P : A → Type 0) (b : Bool) (x y : A) → false ≡ b → P y → P (if b then x else y)
part_absent P b x y e h = subst (λ c. P (if c then x else y)) e h
