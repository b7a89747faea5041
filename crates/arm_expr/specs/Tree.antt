-- Expressions as trees, and how deep they nest.
use Rattle.std.specs.Prelude.{ℕ, ◌+◌, ℤ, List, [], ◌∷◌, max}

mutual
  pub data Tree : Type 0 where
    -- a string, by its characters
    text : List ℕ → Tree
    int : ℤ → Tree
    -- a call of a function by its name
    call : List ℕ → Trees → Tree
    -- the member of that name
    member : Tree → List ℕ → Tree
    -- the part at an index
    index : Tree → Tree → Tree

  -- the arguments of a call
  pub data Trees : Type 0 where
    none : Trees
    more : Tree → Trees → Trees

-- the arguments in a list
abbrev pub trees : List Tree → Trees
trees [] = none
trees (e ∷ es) = more e (trees es)

-- how deep an expression nests: a string and an int 0, a call or an access one more than its deepest part
abbrev mutual
  pub nesting : Tree → ℕ
  nesting (text s) = 0
  nesting (int z) = 0
  nesting (call name arguments) = 1 + deepest arguments
  nesting (member e name) = 1 + nesting e
  nesting (index e i) = 1 + max (nesting e) (nesting i)

  pub deepest : Trees → ℕ
  deepest none = 0
  deepest (more e es) = max (nesting e) (deepest es)
