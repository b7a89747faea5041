-- What `read` answers.
use Rattle.std.specs.Prelude.{◌≡◌, ◌<◌, ◌≤◌, ℕ, List, length, Result, Ok, Err}
use Rattle.arm_expr.specs.declared.expr.Expr.{Expr}
use Rattle.arm_expr.specs.declared.fault.ExprFault.{ExprFault}
use Rattle.arm_expr.specs.declared.fault.ExprFault.TheVariants.{TooLong, NotAnExpression, TooDeep, OutOfMemory}
use Rattle.arm_expr.specs.Tree.{Tree, nesting}
use Rattle.arm_expr.specs.Grammar.{Spells}
use Rattle.arm_expr.specs.View.{tree_of}

-- the answer to a text, where at most `long` characters and a nesting of at most `deep` are allowed: no two of the
-- conditions hold of one text
abbrev pub Reads : ℕ → ℕ → List ℕ → Result Expr ExprFault → Type 0
Reads long deep t (Ok e) = (length t ≤ long) × Spells (tree_of e) t × (nesting (tree_of e) ≤ deep)
Reads long deep t (Err TooLong) = long < length t
Reads long deep t (Err NotAnExpression) = (length t ≤ long) × ((e : Tree) → Spells e t → ⊥)
Reads long deep t (Err TooDeep) = (length t ≤ long) × ((e : Tree) × Spells e t × (deep < nesting e))
Reads long deep t (Err OutOfMemory) = length t ≤ long

-- the expression, unless memory ran out
abbrev pub IsReadAs : Tree → Result Expr ExprFault → Type 0
IsReadAs e (Ok f) = tree_of f ≡ e
IsReadAs e (Err OutOfMemory) = Unit {0}
IsReadAs e (Err _) = ⊥
