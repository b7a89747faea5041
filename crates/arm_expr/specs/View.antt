-- The tree that an expression of the code is.
use Rattle.std.specs.Prelude.{ℕ, List, chars, string_bytes}
use Rattle.std.specs.declared.string.String.{String}
use Rattle.std.specs.declared.alloc.Global.{Global}
use Rattle.arm_expr.specs.declared.expr.Expr.{Expr, fold-Expr}
use Rattle.arm_expr.specs.declared.expr.Expr.TheOpen.{Expr-F}
use Rattle.arm_expr.specs.Tree.{Tree, text, int, call, member, index, trees}

-- one layer, where the parts are trees
abbrev pub layer : Expr-F Tree → Tree
layer (Expr-F.Text s) = text s
layer (Expr-F.Int z) = int z
layer (Expr-F.Call name arguments) = call name (trees arguments.items)
layer (Expr-F.Member e name) = member e.value name
layer (Expr-F.Index e i) = index e.value i.value

unfoldable pub tree_of : Expr → Tree
tree_of = fold-Expr Tree layer

-- the characters of a string that is being written
abbrev pub text_of : String Global → List ℕ
text_of s = chars (string_bytes s)
