-- Cells of worlds whose resources have other numbers.
use Rattle.std.specs.Prelude.{◌≡◌, ℕ, [], ◌∷◌, Option, Some, None, option_map, option_and_then}
use Rattle.deploy_cells.specs.Cells.{step, Position, Cell, parameter, variable, offered, output, count, included}
use Rattle.deploy_cells.specs.Cells.{name, deployments, state, World}

-- of the scope at a position: the new number of a resource, and the resource of a new number
pub record Renaming : Type 0 where
  pub number : Position → ℕ → Option ℕ
  pub resource : Position → ℕ → Option ℕ

-- each new number is that of one resource, and each resource has one
pub record IsOneToOne (r : Renaming) : Type 0 where
  pub there : (p : Position) (n m : ℕ) → r.number p n ≡ Some m → r.resource p m ≡ Some n
  pub back : (p : Position) (m n : ℕ) → r.resource p m ≡ Some n → r.number p n ≡ Some m

-- of two that are there
abbrev pub with_both : {A B C : Type 0} → Option A → Option B → (A → B → C) → Option C
with_both None o f = None
with_both (Some x) None f = None
with_both (Some x) (Some y) f = Some (f x y)

-- a cell with another position and another number
abbrev pub renamed_cell : (Position → Option Position) → (Position → ℕ → Option ℕ) → Cell → Option Cell
renamed_cell h n (parameter p x) = option_map (λ q. parameter q x) (h p)
renamed_cell h n (variable p x) = option_map (λ q. variable q x) (h p)
renamed_cell h n (offered p x) = option_map (λ q. offered q x) (h p)
renamed_cell h n (output p x) = option_map (λ q. output q x) (h p)
renamed_cell h n (count p r) = with_both (h p) (n p r) (λ q m. count q m)
renamed_cell h n (included p s) = with_both (h p) (n p s.resource) (λ q m. included q (step m s.copy))
renamed_cell h n (name p s) = with_both (h p) (n p s.resource) (λ q m. name q (step m s.copy))
renamed_cell h n (deployments p) = option_map (λ q. deployments q) (h p)
renamed_cell h n (state k) = Some (state k)

module _ (r : Renaming) where
  -- the new position of a scope, and the position of a new one
  abbrev pub to_position : Position → Option Position
  to_position [] = Some []
  to_position (s ∷ p) = with_both (to_position p) (r.number p s.resource) (λ q m. step m s.copy ∷ q)

  -- the resource of a new number in the scope at a position, where there is one
  abbrev pub resource_by : Option Position → ℕ → Option ℕ
  resource_by o m = option_and_then (λ p. r.resource p m) o

  abbrev pub from_position : Position → Option Position
  from_position [] = Some []
  from_position (t ∷ q) =
      with_both (from_position q) (resource_by (from_position q) t.resource) (λ p n. step n t.copy ∷ p)

  -- the resource of a new number in the scope at a new position
  abbrev pub resource_at : Position → ℕ → Option ℕ
  resource_at q m = resource_by (from_position q) m

  -- the new cell of a cell, and the cell of a new one
  abbrev pub to_cell : Cell → Option Cell
  to_cell c = renamed_cell to_position r.number c

  abbrev pub from_cell : Cell → Option Cell
  from_cell c = renamed_cell from_position resource_at c

  -- a world with its cells renamed, and back
  abbrev pub renamed : World → World
  renamed w c = option_and_then w (from_cell c)

  abbrev pub unrenamed : World → World
  unrenamed v c = option_and_then v (to_cell c)

  -- a world has entries for cells alone that have a new one
  abbrev pub IsRenamable : World → Type 0
  IsRenamable w = (c : Cell) → to_cell c ≡ None → w c ≡ None
