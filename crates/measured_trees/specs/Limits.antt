-- Which limit of templates a value is beyond, and what may be printed of its expressions.
use Rattle.std.specs.Prelude.{◌≡◌, ◌≤◌, ◌<◌, ◌+◌, ℕ, Option, Some, None}
use Rattle.foundation.specs.declared.limits.TheConstants.{MAX_EXPRESSION_CHARACTERS, MAX_EXPRESSION_NESTING}
use Rattle.foundation.specs.declared.limits.TheConstants.{MAX_JSON_NESTING}
use Rattle.arm_expr.specs.Print.{HasNames, HasInts}
use Rattle.arm_expr.specs.Tree.{Tree}
use Rattle.emitted_sizes.specs.Extent.{bounded}
use Rattle.measured_trees.specs.Extremes.{Extremes}
use Rattle.measured_trees.specs.declared.limits.Beyond.{Beyond}
use Rattle.measured_trees.specs.declared.limits.Beyond.TheVariants as beyond

-- each text of an expression is short enough
abbrev pub AreShort : Extremes → Type 0
AreShort x = x.longest ≤ MAX_EXPRESSION_CHARACTERS

-- it nests not too deep for its place, with so many arrays and objects around it
abbrev pub FitsInto : ℕ → Extremes → Type 0
FitsInto around x = around + x.depth ≤ MAX_JSON_NESTING

-- no expression nests too deep
abbrev pub AreFlat : Extremes → Type 0
AreFlat x = x.deepest ≤ MAX_EXPRESSION_NESTING

-- the limit that it is beyond, where it is beyond one: the nesting of expressions is looked at last
abbrev pub IsBeyond : ℕ → Extremes → Option Beyond → Type 0
IsBeyond around x None = AreShort x × (FitsInto around x × AreFlat x)
IsBeyond around x (Some (beyond.Characters n)) = (MAX_EXPRESSION_CHARACTERS < x.longest) × (n ≡ bounded x.longest)
IsBeyond around x (Some (beyond.Depth n)) =
    AreShort x × ((MAX_JSON_NESTING < around + x.depth) × (n ≡ bounded (around + x.depth)))
IsBeyond around x (Some beyond.TooDeep) =
    AreShort x × (FitsInto around x × (MAX_EXPRESSION_NESTING < x.deepest))

-- the names and the numbers in an expression are those of its grammar
abbrev pub IsPrintable : Tree → Type 0
IsPrintable e = HasNames e × HasInts e
