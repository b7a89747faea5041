-- Operators, one by one.
use Rattle.std.proofs.Common.{◌≡◌, true, false, refl, ap, ◌∙◌}
use Rattle.std.specs.Prelude.{if◌then◌else◌}
use Rattle.arm_expr.specs.Tree.{Tree}
use Rattle.bicep_tree.specs.declared.leaf.Operator.{Operator}
use Rattle.bicep_tree.specs.declared.leaf.Operator.TheVariants as o
use Rattle.bicep_emission.specs.Emitted.{not_of, binary_of}
use Rattle.emitted_parts.specs.Built.{is_ascii}
use Rattle.emitted_parts.specs.Words.{operator_word, is_negated, compared}

pub words_ascii : (op : Operator) → is_ascii (operator_word op) ≡ true
words_ascii o.Coalesce = refl
words_ascii o.Or = refl
words_ascii o.And = refl
words_ascii o.Equals = refl
words_ascii o.NotEquals = refl
words_ascii o.EqualsInsensitive = refl
words_ascii o.NotEqualsInsensitive = refl
words_ascii o.Less = refl
words_ascii o.LessOrEqual = refl
words_ascii o.Greater = refl
words_ascii o.GreaterOrEqual = refl
words_ascii o.Add = refl
words_ascii o.Subtract = refl
words_ascii o.Multiply = refl
words_ascii o.Divide = refl
words_ascii o.Remainder = refl

written : (op : Operator) (a b : Tree)
    → (if is_negated op then not_of (compared op a b) else compared op a b) ≡ binary_of op a b
written o.Coalesce a b = refl
written o.Or a b = refl
written o.And a b = refl
written o.Equals a b = refl
written o.NotEquals a b = refl
written o.EqualsInsensitive a b = refl
written o.NotEqualsInsensitive a b = refl
written o.Less a b = refl
written o.LessOrEqual a b = refl
written o.Greater a b = refl
written o.GreaterOrEqual a b = refl
written o.Add a b = refl
written o.Subtract a b = refl
written o.Multiply a b = refl
written o.Divide a b = refl
written o.Remainder a b = refl

-- an operator that is `not` of another, and one that is not
pub negated_is : (op : Operator) → true ≡ is_negated op → (a b : Tree) → not_of (compared op a b) ≡ binary_of op a b
negated_is op e a b =
    ap (λ p. if p then not_of (compared op a b) else compared op a b) e ∙ written op a b

pub plain_is : (op : Operator) → false ≡ is_negated op → (a b : Tree) → compared op a b ≡ binary_of op a b
plain_is op e a b = ap (λ p. if p then not_of (compared op a b) else compared op a b) e ∙ written op a b
