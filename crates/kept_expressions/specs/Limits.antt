-- The limits of template expressions.
use Rattle.std.specs.Prelude.{◌≡◌, ◌&&◌, nat_le, Bool, Option, MatchOption}
use Rattle.arm_expr.specs.Tree.{Tree}
use Rattle.arm_expr.specs.View.{tree_of}
use Rattle.arm_expr.specs.declared.expr.Expr.{Expr}
use Rattle.emitted_sizes.specs.declared.extent.Extent.{Extent}
use Rattle.measured_holes.specs.declared.holed.Holed.{Holed}

-- whether an expression is within the limits: its text has at most 24,576 characters with its brackets, and it nests at
-- most 64 deep
abbrev pub is_within : Extent → Bool
is_within x = nat_le x.length 24574 && nat_le x.depth 64

-- the extent of an expression with the least in its holes
abbrev pub least_extent : Holed → Extent
least_extent h = record { length = h.length; depth = h.depth }

-- an expression that is put into holes, where it is within the limits
abbrev pub IsPut : Tree → Option Expr → Type 0
IsPut t o = MatchOption o (Unit {0}) (λ e. tree_of e ≡ t)
