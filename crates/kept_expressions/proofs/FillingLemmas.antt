-- Calls of the empty name, and of others.
use Rattle.std.proofs.Common.{◌≡◌, ◌==◌, suc, true, false, ℕ, List, [], ◌∷◌, length, map, refl, arith}
use Rattle.std.proofs.lemmas.Bool.{true≢false, false≢true}
use Rattle.std.proofs.lemmas.Bool.Decides.{nat_tests}
use Rattle.arm_ids.specs.Segments.{is_empty}
use Rattle.arm_expr.specs.Tree.{Trees, call, trees}
use Rattle.arm_expr.specs.View.{tree_of}
use Rattle.arm_expr.specs.declared.expr.Expr.{Expr}
use Rattle.emitted_parts.specs.Emitted.{Frame}
use Rattle.measured_holes.specs.Holes.{fill, fill_all, in_hole}

pub hole_filled : (f : Frame) (name : List ℕ) (es : Trees) → is_empty name ≡ true
    → in_hole f es ≡ fill f (call name es)
hole_filled f [] es e = refl
hole_filled f (c ∷ cs) es e = absurd (false≢true e)

pub call_filled : (f : Frame) (name : List ℕ) (es : Trees) → is_empty name ≡ false
    → call name (fill_all f es) ≡ fill f (call name es)
call_filled f [] es e = absurd (true≢false e)
call_filled f (c ∷ cs) es e = refl

pub item_in : (f : Frame) (es : List Expr) → (length es == 0) ≡ true → f.item ≡ in_hole f (trees (map tree_of es))
item_in f [] e = refl
item_in f (x ∷ es) e = let n : suc (length es) ≡ 0 = grind (arith, nat_tests) in absurd (omega arith)

pub index_in : (f : Frame) (es : List Expr) → (length es == 0) ≡ false → f.index ≡ in_hole f (trees (map tree_of es))
index_in f [] e = absurd (cc)
index_in f (x ∷ es) e = refl
