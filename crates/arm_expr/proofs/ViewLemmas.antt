-- The views of trees and stacks.
use Rattle.std.proofs.Common.{◌≡◌, ℕ, ℤ, ◌+◌, List, [], ◌∷◌, ◌++◌, map, refl, ap, sym, ◌∙◌, Option, Some, None}
use Rattle.std.proofs.Common.{option_to_list, MatchOption, length}
use Rattle.std.specs.declared.vec.Vec.{Vec}
use Rattle.std.specs.declared.boxed.Box.{Box}
use Rattle.std.specs.declared.alloc.Global.{Global}
use Rattle.arm_expr.specs.declared.expr.Expr.{Expr, fold-Expr, fold-roll-Expr}
use Rattle.arm_expr.specs.declared.expr.Expr.TheOpen.{Expr-F}
use Rattle.arm_expr.specs.declared.expr.Expr.TheVariants as e
use Rattle.arm_expr.specs.declared.parser.Frame as frames
use Rattle.arm_expr.specs.Tree.{Tree, text, int, call, member, index, trees}
use Rattle.arm_expr.specs.View.{layer, tree_of}
use Rattle.arm_expr.specs.Stack.{KeptFrame, frame_of, frames_onto, frames_of}

pub tree_of-Text : (s : List ℕ) → tree_of (e.Text s) ≡ text s
unfolding tree_of
tree_of-Text s = ap (fold-Expr Tree layer) (sym (e.rolls-Text s)) ∙ fold-roll-Expr Tree layer (Expr-F.Text s)

pub tree_of-Int : (z : ℤ) → tree_of (e.Int z) ≡ int z
unfolding tree_of
tree_of-Int z = ap (fold-Expr Tree layer) (sym (e.rolls-Int z)) ∙ fold-roll-Expr Tree layer (Expr-F.Int z)

pub tree_of-Call : (s : List ℕ) (es : Vec Expr Global) → tree_of (e.Call s es) ≡ call s (trees (map tree_of es.items))
unfolding tree_of
tree_of-Call s es = ap (fold-Expr Tree layer) (sym (e.rolls-Call s es)) ∙ fold-roll-Expr Tree layer (Expr-F.Call s es)

pub tree_of-Member : (x : Box Expr Global) (s : List ℕ) → tree_of (e.Member x s) ≡ member (tree_of x.value) s
unfolding tree_of
tree_of-Member x s = ap (fold-Expr Tree layer) (sym (e.rolls-Member x s))
    ∙ fold-roll-Expr Tree layer (Expr-F.Member x s)

pub tree_of-Index : (x y : Box Expr Global) → tree_of (e.Index x y) ≡ index (tree_of x.value) (tree_of y.value)
unfolding tree_of
tree_of-Index x y = ap (fold-Expr Tree layer) (sym (e.rolls-Index x y)) ∙ fold-roll-Expr Tree layer (Expr-F.Index x y)

onto-push : (S : List KeptFrame) (fs : List frames.Frame) (f : frames.Frame)
    → frames_onto S (fs ++ f ∷ []) ≡ frame_of f ∷ frames_onto S fs
onto-push S [] f = refl
onto-push S (g ∷ fs) f = onto-push (frame_of g ∷ S) fs f

pub frames_of-push : (fs : List frames.Frame) (f : frames.Frame) → frames_of (fs ++ f ∷ []) ≡ frame_of f ∷ frames_of fs
frames_of-push fs f = onto-push [] fs f

pub popped : (o : Option frames.Frame) (old new : List frames.Frame) (n m : ℕ) → old ≡ new ++ option_to_list o
    → n ≡ length old → MatchOption o ((n ≡ 0) × (m ≡ 0)) (λ _. m + 1 ≡ n)
    → MatchOption o (frames_of old ≡ []) (λ f. frames_of old ≡ frame_of f ∷ frames_of new)
popped None old new n m h n_is zero = ap frames_of (empty old (sym n_is ∙ zero.0))
  where
    empty : (xs : List frames.Frame) → length xs ≡ 0 → xs ≡ []
    empty [] h = refl
    empty (x ∷ xs) h = cc
popped (Some f) old new n m h n_is zero = ap frames_of h ∙ frames_of-push new f

pub arguments-push : (es : List Expr) (x : Expr) → map tree_of (es ++ x ∷ []) ≡ map tree_of es ++ tree_of x ∷ []
arguments-push [] x = refl
arguments-push (e ∷ es) x = ap (λ ts. tree_of e ∷ ts) (arguments-push es x)

pub ruleset views = (
  tree_of-Text,
  tree_of-Int,
  tree_of-Call,
  tree_of-Member,
  tree_of-Index,
  frames_of-push,
  arguments-push,
)
