-- What is put into holes to see how an extent grows.
use Rattle.std.specs.Prelude.{ℕ, zero, suc, pos, []}
use Rattle.arm_expr.specs.Tree.{Tree, text, int, member}
use Rattle.measured_expressions.specs.Emitted.{Frame}
use Rattle.emission_laws.specs.Holes.{fill}
use Rattle.emitted_sizes.specs.Extent.{IsOf}
use Rattle.measured_holes.specs.declared.probes.Probed.{Probed}

-- an expression that nests so deep, and has one character more
abbrev pub deep : ℕ → Tree
deep zero = int (pos 0)
deep (suc n) = member (deep n) []

-- an expression of two characters that does not nest
abbrev pub wide : Tree
wide = text []

abbrev pub probe : Tree → Tree → Frame
probe a i = record { item = a; index = i }

-- the extents of an expression with each of these in its holes; what nests does so n deep
pub record IsProbed (t : Tree) (n : ℕ) (p : Probed) : Type 0 where
  pub least : IsOf (fill (probe (deep 0) (deep 0)) t) p.least
  pub wide_item : IsOf (fill (probe wide (deep 0)) t) p.wide_item
  pub wide_index : IsOf (fill (probe (deep 0) wide) t) p.wide_index
  pub deep_item : IsOf (fill (probe (deep n) (deep 0)) t) p.deep_item
  pub deep_index : IsOf (fill (probe (deep 0) (deep n)) t) p.deep_index
