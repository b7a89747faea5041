-- How the extent of an expression grows with what is put into its holes.
use Rattle.std.specs.Prelude.{◌≡◌, ◌+◌, ◌-◌, ◌^◌, ℕ, suc, [], ◌∷◌, length, min, max, Option}
use Rattle.std.specs.Prelude.{Some, None}
use Rattle.arm_expr.specs.Print.{size}
use Rattle.arm_expr.specs.Tree.{Tree, Trees, text, int, call, member, index, none, more}
use Rattle.emitted_sizes.specs.Extent.{bounded}
use Rattle.measured_holes.specs.declared.holed.Holed.{Holed}

-- how many characters are written where a hole for an item has x and one for an index has y
abbrev mutual
  pub size_with : ℕ → ℕ → Tree → ℕ
  size_with x y (text s) = size (text s)
  size_with x y (int z) = size (int z)
  size_with x y (call [] none) = x
  size_with x y (call [] (more e es)) = y
  size_with x y (call (c ∷ cs) es) = length (c ∷ cs) + 1 + arguments_with x y 0 es
  size_with x y (member e name) = size_with x y e + 1 + length name
  size_with x y (index e i) = 2 + size_with x y e + size_with x y i

  pub arguments_with : ℕ → ℕ → ℕ → Trees → ℕ
  arguments_with x y n none = 1
  arguments_with x y n (more e es) = n + size_with x y e + arguments_with x y 2 es

-- how many holes there are: for items where x is 1 and y is 0, for indices where x is 0 and y is 1
abbrev mutual
  pub holes_with : ℕ → ℕ → Tree → ℕ
  holes_with x y (text s) = 0
  holes_with x y (int z) = 0
  holes_with x y (call [] none) = x
  holes_with x y (call [] (more e es)) = y
  holes_with x y (call (c ∷ cs) es) = all_holes_with x y es
  holes_with x y (member e name) = holes_with x y e
  holes_with x y (index e i) = holes_with x y e + holes_with x y i

  pub all_holes_with : ℕ → ℕ → Trees → ℕ
  all_holes_with x y none = 0
  all_holes_with x y (more e es) = holes_with x y e + all_holes_with x y es

abbrev pub items_in : Tree → ℕ
items_in t = holes_with 1 0 t

abbrev pub indices_in : Tree → ℕ
indices_in t = holes_with 0 1 t

-- how deep an expression nests where what is in a hole for an item nests x deep and in one for an index y
abbrev mutual
  pub nesting_with : ℕ → ℕ → Tree → ℕ
  nesting_with x y (text s) = 0
  nesting_with x y (int z) = 0
  nesting_with x y (call [] none) = x
  nesting_with x y (call [] (more e es)) = y
  nesting_with x y (call (c ∷ cs) es) = 1 + deepest_with x y es
  nesting_with x y (member e name) = 1 + nesting_with x y e
  nesting_with x y (index e i) = 1 + max (nesting_with x y e) (nesting_with x y i)

  pub deepest_with : ℕ → ℕ → Trees → ℕ
  deepest_with x y none = 0
  deepest_with x y (more e es) = max (nesting_with x y e) (deepest_with x y es)

abbrev pub one_deeper : Option ℕ → Option ℕ
one_deeper None = None
one_deeper (Some d) = Some (suc d)

-- the greater of two depths, where there are such
abbrev pub greater : Option ℕ → Option ℕ → Option ℕ
greater None o = o
greater (Some d) None = Some d
greater (Some d) (Some e) = Some (max d e)

-- how deep the deepest hole is, of those for items (x) or for indices (y)
abbrev mutual
  pub depth_of : Option ℕ → Option ℕ → Tree → Option ℕ
  depth_of x y (text s) = None
  depth_of x y (int z) = None
  depth_of x y (call [] none) = x
  depth_of x y (call [] (more e es)) = y
  depth_of x y (call (c ∷ cs) es) = one_deeper (depth_of_all x y es)
  depth_of x y (member e name) = one_deeper (depth_of x y e)
  depth_of x y (index e i) = one_deeper (greater (depth_of x y e) (depth_of x y i))

  pub depth_of_all : Option ℕ → Option ℕ → Trees → Option ℕ
  depth_of_all x y none = None
  depth_of_all x y (more e es) = greater (depth_of x y e) (depth_of_all x y es)

abbrev pub item_depth : Tree → Option ℕ
item_depth t = depth_of (Some 0) None t

abbrev pub index_depth : Tree → Option ℕ
index_depth t = depth_of None (Some 0) t

-- how deep what is in the deepest hole nests, where it nests d deep itself
abbrev pub under : Option ℕ → ℕ → ℕ
under None d = 0
under (Some k) d = k + d

-- The extent of an expression, and how it grows: numbers of characters stop at 2 ^ 64 - 1, and those of holes where the
-- expression reaches that with them.
pub record Grows (t : Tree) (h : Holed) : Type 0 where
  pub length : h.length ≡ bounded (size_with 1 1 t)
  pub items : h.items ≡ min (items_in t) (2 ^ 64 - 1 - h.length)
  pub indices : h.indices ≡ min (indices_in t) (2 ^ 64 - 1 - h.length)
  pub depth : h.depth ≡ nesting_with 0 0 t
  pub item_depth : h.item_depth ≡ item_depth t
  pub index_depth : h.index_depth ≡ index_depth t
