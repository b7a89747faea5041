-- How operators are written with functions of templates.
use Rattle.std.specs.Prelude.{ℕ, Bool, true, false, List, codes, if◌then◌else◌}
use Rattle.arm_expr.specs.Tree.{Tree, Trees, call}
use Rattle.bicep_tree.specs.declared.leaf.Operator.{Operator}
use Rattle.bicep_tree.specs.declared.leaf.Operator.TheVariants as o
use Rattle.bicep_emission.specs.Emitted.{two, small}

-- the function of two arguments
abbrev pub operator_word : Operator → List ℕ
operator_word o.Coalesce = codes "coalesce"
operator_word o.Or = codes "or"
operator_word o.And = codes "and"
operator_word o.Equals = codes "equals"
operator_word o.NotEquals = codes "equals"
operator_word o.EqualsInsensitive = codes "equals"
operator_word o.NotEqualsInsensitive = codes "equals"
operator_word o.Less = codes "less"
operator_word o.LessOrEqual = codes "lessOrEquals"
operator_word o.Greater = codes "greater"
operator_word o.GreaterOrEqual = codes "greaterOrEquals"
operator_word o.Add = codes "add"
operator_word o.Subtract = codes "sub"
operator_word o.Multiply = codes "mul"
operator_word o.Divide = codes "div"
operator_word o.Remainder = codes "mod"

-- whether its arguments are the operands in small letters
abbrev pub is_lowered : Operator → Bool
is_lowered o.EqualsInsensitive = true
is_lowered o.NotEqualsInsensitive = true
is_lowered op = false

-- whether the operator is `not` of it
abbrev pub is_negated : Operator → Bool
is_negated o.NotEquals = true
is_negated o.NotEqualsInsensitive = true
is_negated op = false

abbrev pub operands : Operator → Tree → Tree → Trees
operands op a b = if is_lowered op then two (small a) (small b) else two a b

-- the call of that function
abbrev pub compared : Operator → Tree → Tree → Tree
compared op a b = call (operator_word op) (operands op a b)
