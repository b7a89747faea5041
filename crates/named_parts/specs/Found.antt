-- Parts of a template that are found by their names after ASCII case folding.
use Rattle.std.specs.Prelude.{◌≡◌, ℕ, true, false, Bool, List, Option, Some, None, bytes_eq}
use Rattle.arm_value.specs.Look.{fold}
use Rattle.plan_cells.specs.Sites.{first_with}

-- the first part of a folded name
abbrev pub found : {A : Type 0} → (A → List ℕ) → List ℕ → List A → Option A
found name x xs = first_with (λ a. bytes_eq x (fold (name a))) xs

-- the second list has one part more than the first, in whatever place
pub record HasOneMore {A : Type 0} (a : A) (xs ys : List A) : Type 0 where
  pub new : (test : A → Bool) → test a ≡ true → first_with test xs ≡ None → first_with test ys ≡ Some a
  pub others : (test : A → Bool) → test a ≡ false → first_with test ys ≡ first_with test xs
