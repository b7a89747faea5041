-- Expressions whose names are names of the grammar, for what writes the expressions that it made.
use Rattle.std.proofs.Common.{ℕ, ℤ, List, map, sym, subst}
use Rattle.std.specs.declared.vec.Vec.{Vec}
use Rattle.std.specs.declared.boxed.Box.{Box}
use Rattle.std.specs.declared.alloc.Global.{Global}
use Rattle.arm_expr.specs.declared.expr.Expr.{Expr}
use Rattle.arm_expr.specs.declared.expr.Expr.TheVariants as e
use Rattle.arm_expr.specs.Tree.{trees}
use Rattle.arm_expr.specs.Grammar.{IsName}
use Rattle.arm_expr.specs.Print.{HasNames, HaveNames}
use Rattle.arm_expr.specs.View.{tree_of}
use Rattle.arm_expr.proofs.ViewLemmas.{tree_of-Text, tree_of-Int, tree_of-Call, tree_of-Member, tree_of-Index}

pub names-Text : (s : List ℕ) → HasNames (tree_of (e.Text s))
names-Text s = subst HasNames (sym (tree_of-Text s)) tt

pub names-Int : (z : ℤ) → HasNames (tree_of (e.Int z))
names-Int z = subst HasNames (sym (tree_of-Int z)) tt

pub names-Call : (s : List ℕ) (es : Vec Expr Global) → IsName s → HaveNames (trees (map tree_of es.items))
    → HasNames (tree_of (e.Call s es))
names-Call s es n h = subst HasNames (sym (tree_of-Call s es)) (n, h)

pub names-Member : (x : Box Expr Global) (s : List ℕ) → HasNames (tree_of x.value) → IsName s
    → HasNames (tree_of (e.Member x s))
names-Member x s h n = subst HasNames (sym (tree_of-Member x s)) (h, n)

pub names-Index : (x y : Box Expr Global) → HasNames (tree_of x.value) → HasNames (tree_of y.value)
    → HasNames (tree_of (e.Index x y))
names-Index x y h k = subst HasNames (sym (tree_of-Index x y)) (h, k)

pub ruleset names = (names-Text, names-Int, names-Call, names-Member, names-Index)
