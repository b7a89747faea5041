-- How tightly expressions bind (Microsoft Learn, "Bicep operators", operator precedence and associativity).
use Rattle.std.specs.Prelude.{ℕ, ◌<◌, ◌≤◌}
use Rattle.bicep_tree.specs.declared.leaf.Operator.{Operator}
use Rattle.bicep_tree.specs.declared.leaf.Operator.TheVariants as o
use Rattle.bicep_tree.specs.Tree.{Tree}
use Rattle.bicep_tree.specs.Tree.{prefixed, binary, conditional}

-- how tightly an operator binds
abbrev pub level : Operator → ℕ
level o.Coalesce = 1
level o.Or = 2
level o.And = 3
level o.Equals = 4
level o.NotEquals = 4
level o.EqualsInsensitive = 4
level o.NotEqualsInsensitive = 4
level o.Less = 5
level o.LessOrEqual = 5
level o.Greater = 5
level o.GreaterOrEqual = 5
level o.Add = 6
level o.Subtract = 6
level o.Multiply = 7
level o.Divide = 7
level o.Remainder = 7

-- how tightly an expression binds: a conditional least, and what needs no operator most
abbrev pub rank : Tree → ℕ
rank (conditional c a b) = 0
rank (binary p a b) = level p
rank (prefixed at p e) = 8
rank e = 9

-- Operators of one level group to the left: the left part may bind as the operator does, and the right one binds more
-- tightly.
abbrev pub Groups : Operator → Tree → Tree → Type 0
Groups p a b = (level p ≤ rank a) × (level p < rank b)

-- needs no parentheses before an access, an index or `!`
abbrev pub IsPrimary : Tree → Type 0
IsPrimary e = 9 ≤ rank e

-- needs none after a prefix
abbrev pub IsUnary : Tree → Type 0
IsUnary e = 8 ≤ rank e

-- needs none before the `?` of a conditional
abbrev pub IsOperand : Tree → Type 0
IsOperand e = 1 ≤ rank e
