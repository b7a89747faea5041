-- The numbers by which the line of a cell is found.
use Rattle.std.specs.Prelude.{◌≡◌, ℕ, ◌<◌, List, [], ◌∷◌, length, Some}
use Rattle.std.specs.declared.vec.Vec.{Vec}
use Rattle.std.specs.declared.alloc.Global.{Global}
use Rattle.std.specs.declared.cmp.Ordering.{Ordering}
use Rattle.std.specs.Ordering.{nat_cmp}
use Rattle.std.specs.Cmp.Lexicographic.{slice_cmp}
use Rattle.std.specs.BTreeMap.{BTreeMap, get}
use Rattle.plan_filling.specs.Cells.{Cell, parameter, variable, offered, output, count, included, name, deployments, state}
use Rattle.plan_table.specs.declared.line.Line.{Line}
use Rattle.plan_table.specs.declared.line.Spot.{Spot}
use Rattle.plan_table.specs.Opened.{Opened}
use Rattle.plan_table.specs.Lines.{frame_of, cell_of, line_at}

-- which cell of its scope it is
abbrev pub shape : Cell → List ℕ
shape (parameter p x) = 0 ∷ x
shape (variable p x) = 1 ∷ x
shape (offered p x) = 2 ∷ x
shape (output p x) = 3 ∷ x
shape (count p r) = 4 ∷ r ∷ []
shape (included p s) = 5 ∷ s.resource ∷ s.copy ∷ []
shape (name p s) = 6 ∷ s.resource ∷ s.copy ∷ []
shape (deployments p) = 7 ∷ []
shape (state k) = []

-- the key of the cell of a spot: the number of the frame, and which cell of the scope it is
abbrev pub key_of : List Opened → Spot → List ℕ
key_of os s = frame_of s ∷ shape (cell_of os s)

-- the order of keys
abbrev pub key_cmp : Vec ℕ Global → Vec ℕ Global → Ordering
key_cmp s t = slice_cmp nat_cmp s.items t.items

abbrev pub Index : Type 0
Index = BTreeMap (Vec ℕ Global) ℕ

-- the line of a key
abbrev pub at_key : Index → Vec ℕ Global → ℕ → Type 0
at_key ix s j = get key_cmp ix s ≡ Some j

-- the index has a line of the key
pub record IsIndexed (ix : Index) (s : Vec ℕ Global) : Type 0 where
  pub line : ℕ
  pub is : at_key ix s line

-- the index has the keys of the lines, and no others; each leads to a line that has it
pub record Indexes (os : List Opened) (ix : Index) (ls : List Line) : Type 0 where
  pub sound : (s : Vec ℕ Global) (j : ℕ) → at_key ix s j → (j < length ls) × (key_of os (line_at ls j).spot ≡ s.items)
  pub complete : (s : Vec ℕ Global) (j : ℕ) → j < length ls → s.items ≡ key_of os (line_at ls j).spot → IsIndexed ix s
