-- Expressions that are kept, where they are within the limits.
use Rattle.std.specs.Prelude.{◌≡◌, Bool, Option, is_some, MatchOption, List, [], ◌∷◌}
use Rattle.arm_expr.specs.Tree.{Tree}
use Rattle.arm_expr.specs.View.{tree_of}
use Rattle.arm_expr.specs.declared.expr.Expr.{Expr}
use Rattle.emitted_sizes.specs.Extent.{IsOf}
use Rattle.measured_holes.specs.Growth.{Grows}
use Rattle.kept_expressions.specs.Limits.{is_within, least_extent}
use Rattle.kept_expressions.specs.declared.keeping.Kept.{Kept}
use Rattle.kept_expressions.specs.declared.keeping.KeptHoles.{KeptHoles}

-- an expression is there exactly where it is within the limits, and is this one
pub record IsThere (t : Tree) (within : Bool) (e : Option Expr) : Type 0 where
  pub there : is_some e ≡ within
  pub is : MatchOption e (Unit {0}) (λ x. tree_of x ≡ t)

-- the extent of this expression, and the expression, where it is within the limits
pub record IsKept (t : Tree) (k : Kept) : Type 0 where
  pub extent : IsOf t k.extent
  pub expression : IsThere t (is_within k.extent) k.expression

-- how this expression grows with what is put into its holes, and the expression, where it is within the limits with the
-- least in these
pub record IsKeptHoles (t : Tree) (k : KeptHoles) : Type 0 where
  pub grows : Grows t k.holed
  pub expression : IsThere t (is_within (least_extent k.holed)) k.expression

-- the same of each
abbrev pub AreKeptHoles : List Tree → List KeptHoles → Type 0
AreKeptHoles [] [] = Unit {0}
AreKeptHoles (t ∷ ts) (k ∷ ks) = IsKeptHoles t k × AreKeptHoles ts ks
AreKeptHoles ts ks = ⊥
