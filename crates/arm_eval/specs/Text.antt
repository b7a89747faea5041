-- The expression that a text of a template spells.
use Rattle.std.specs.Prelude.{ℕ, ◌&&◌, nat_le, length, Bool, List, Option, Some, None}
use Rattle.std.specs.Prelude.{if◌then◌else◌}
use Rattle.foundation.specs.declared.limits.TheConstants.{MAX_EXPRESSION_CHARACTERS}
use Rattle.arm_expr.specs.Brackets.{is_bracketed, inside}
use Rattle.arm_expr.specs.Tree.{Tree}
use Rattle.arm_expr.specs.Stack.{kept_reading}

-- whether the text may be an expression: it is in brackets and within the limit
abbrev pub may_be_expression : List ℕ → Bool
may_be_expression t = nat_le (length t) MAX_EXPRESSION_CHARACTERS && is_bracketed t

-- the tree of a reading: none where nothing is spelled, or where what is spelled nests too deep
abbrev pub tree_read : Option (Option Tree) → Option Tree
tree_read (Some (Some e)) = Some e
tree_read _ = None

-- the expression that a text of at most 24,576 characters spells, where it nests at most 64: the law
-- `expressions_are_spelled` says so by the grammar
unfoldable pub expression_of : List ℕ → Option Tree
expression_of t = if may_be_expression t then tree_read (kept_reading (inside t)) else None
