-- The cells of a desired state, one for each value in it, and which cell decides whether another is there.
use Rattle.std.specs.Prelude.{ℕ, suc, pos, nat_lt, Bool, true, List, [], ◌∷◌, Option, Some, None}
use Rattle.arm_value.specs.Json.{Json, int}
use Rattle.arm_ids.specs.declared.id.ResourceId.{ResourceId}
use Rattle.arm_value.specs.Kinds.{is_true}

-- an instance: the number of its resource among those of its template or file, and its index in the loop, or 0
pub record Step : Type 0 where
  pub resource : ℕ
  pub copy : ℕ

abbrev pub step : ℕ → ℕ → Step
step r i = record { resource = r; copy = i }

-- which scope: the instances of nested deployments that lead to it, the innermost first; the root is []
abbrev pub Position : Type 0
Position = List Step

-- names are folded
pub data Cell : Type 0 where
  -- of the scope at a position
  parameter : Position → List ℕ → Cell
  variable : Position → List ℕ → Cell
  -- whether the condition of an output is true, and its value
  offered : Position → List ℕ → Cell
  output : Position → List ℕ → Cell
  -- how many instances a resource has
  count : Position → ℕ → Cell
  -- of an instance: whether it is included, and its full name
  included : Position → Step → Cell
  name : Position → Step → Cell
  -- the names of the nested deployments
  deployments : Position → Cell
  -- of the resource at a key
  state : ResourceId → Cell

-- what has a value or none for each cell
abbrev pub World : Type 0
World = Cell → Option Json

-- the cell by whose value the scope at a position is there; the root always is
abbrev pub opener : Position → Option Cell
opener [] = None
opener (s ∷ p) = Some (included p s)

-- the cell by whose value another is there
abbrev pub parent : Cell → Option Cell
parent (parameter p x) = opener p
parent (variable p x) = opener p
parent (offered p x) = opener p
parent (output p x) = Some (offered p x)
parent (count p r) = opener p
parent (included p s) = Some (count p s.resource)
parent (name p s) = Some (count p s.resource)
parent (deployments p) = opener p
parent (state k) = None

-- the number of instances that a count says
abbrev pub copies : Option Json → ℕ
copies (Some (int (pos n))) = n
copies _ = 0

-- whether a cell is there where its parent has this value
abbrev pub admits : Cell → Option Json → Bool
admits (included p s) v = nat_lt s.copy (copies v)
admits (name p s) v = nat_lt s.copy (copies v)
admits _ v = is_true v

abbrev pub admitted : World → Cell → Option Cell → Bool
admitted w c None = true
admitted w c (Some d) = admits c (w d)

-- whether a cell is there in a world by the value of its parent
abbrev pub is_admitted : World → Cell → Bool
is_admitted w c = admitted w c (parent c)

-- how many cells are above those of a scope
abbrev pub scope_depth : Position → ℕ
scope_depth [] = 0
scope_depth (s ∷ p) = suc (suc (scope_depth p))

-- how many cells are above a cell: its parent, the parent of that, and so on
abbrev pub depth : Cell → ℕ
depth (parameter p x) = scope_depth p
depth (variable p x) = scope_depth p
depth (offered p x) = scope_depth p
depth (output p x) = suc (scope_depth p)
depth (count p r) = scope_depth p
depth (included p s) = suc (scope_depth p)
depth (name p s) = suc (scope_depth p)
depth (deployments p) = scope_depth p
depth (state k) = 0
