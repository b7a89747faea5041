-- The arguments of a call: their number, and the text that one argument is.
use Rattle.std.proofs.Common.{◌≡◌, ◌≤◌, suc, List, [], ◌∷◌, length, map, None, refl, ap, arith}
use Rattle.arm_expr.specs.Tree.{trees}
use Rattle.arm_expr.specs.View.{tree_of}
use Rattle.arm_expr.specs.declared.expr.Expr.{Expr}
use Rattle.template_texts.specs.Sound.{count, text_named}

pub count_trees : (es : List Expr) → count (trees (map tree_of es)) ≡ length es
count_trees [] = refl
count_trees (e ∷ es) = ap suc (count_trees es)

-- two or more arguments are no one text
pub no_text_named : (es : List Expr) → 2 ≤ length es → text_named (trees (map tree_of es)) ≡ None
no_text_named [] h = absurd (omega arith)
no_text_named (e ∷ []) h = absurd (omega arith)
no_text_named (e ∷ f ∷ es) h = refl
