-- What contracts see of the types of the code that hold trees.
use Rattle.std.specs.Prelude.{ℕ, Bool}

-- a part, and how deep it nests
pub record Held (X : Type 0) : Type 0 where
  pub part : X
  pub depth : ℕ

-- a state, and whether newlines are skipped there
pub record Place (X : Type 0) : Type 0 where
  pub state : X
  pub inside : Bool
