use Rattle.std.proofs.Common.{◌≡◌, List, ℕ, Err, None, Some, subst}
use Rattle.arm_expr.specs.View.{tree_of}
use Rattle.arm_expr.specs.Answers.{Reads}
use Rattle.arm_expr.specs.declared.fault.ExprFault.{ExprFault}
use Rattle.arm_expr.specs.declared.fault.ExprFault.TheVariants.{TooLong, NotAnExpression, TooDeep, OutOfMemory}
use Rattle.arm_eval.specs.Text.{expression_of}
use Rattle.arm_eval.proofs.TextLemmas.{read_is, unread_is}
use Rattle.arm_eval.proofs.texts.expression_of.Goals as goal

no_expression : (t u : List ℕ) (f g : ExprFault) → u ≡ t → f ≡ g → (g ≡ OutOfMemory → ⊥) → Reads 24576 64 u (Err f)
    → None ≡ expression_of t
no_expression t u f g e h n r =
    subst (λ (t : List ℕ). None ≡ expression_of t) e
    (unread_is u g (subst (λ (f : ExprFault). Reads 24576 64 u (Err f)) h r) n)

pub returns-in-Ok : goal.returns-in-Ok
returns-in-Ok c = subst (λ (t : List ℕ). Some (tree_of c.in-Ok.e) ≡ expression_of t) c.as_str.ensures.characters
    (read_is _ c.in-Ok.e c.in-Ok.ensures.answer)

pub returns-in-Err-TooLong : goal.returns-in-Err-TooLong
returns-in-Err-TooLong c =
    no_expression _ _ c.in-Err-TooLong.field-0 TooLong c.as_str.ensures.characters c.in-Err-TooLong.field-0-is
    (λ e. cc) c.in-Err-TooLong.ensures.answer

pub returns-in-Err-NotAnExpression : goal.returns-in-Err-NotAnExpression
returns-in-Err-NotAnExpression c =
    no_expression _ _ c.in-Err-NotAnExpression.field-0 NotAnExpression c.as_str.ensures.characters
    c.in-Err-NotAnExpression.field-0-is (λ e. cc) c.in-Err-NotAnExpression.ensures.answer

pub returns-in-Err-TooDeep : goal.returns-in-Err-TooDeep
returns-in-Err-TooDeep c =
    no_expression _ _ c.in-Err-TooDeep.field-0 TooDeep c.as_str.ensures.characters c.in-Err-TooDeep.field-0-is
    (λ e. cc) c.in-Err-TooDeep.ensures.answer
