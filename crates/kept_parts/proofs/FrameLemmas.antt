-- Runs in the holes of runs.
use Rattle.std.proofs.Common.{◌≡◌, ◌∷◌, [], refl, ap}
use Rattle.arm_expr.specs.Tree.{Tree, Trees, text, int, call, member, index, more}
use Rattle.arm_expr.specs.Tree as tree
use Rattle.emitted_parts.specs.Emitted.{Frame}
use Rattle.emission_laws.specs.Holes.{fill, fill_all, in_hole}
use Rattle.kept_parts.specs.Frames.{fill_frame}

in_hole_filled : (f g : Frame) (es : Trees) → fill f (in_hole g es) ≡ in_hole (fill_frame f g) es
in_hole_filled f g tree.none = refl
in_hole_filled f g (more e es) = refl

-- the run of a loop in the holes of what has a run in its holes
mutual
  pub filled_twice : (f g : Frame) (t : Tree) → fill f (fill g t) ≡ fill (fill_frame f g) t
  filled_twice f g (text s) = refl
  filled_twice f g (int z) = refl
  filled_twice f g (call [] es) = in_hole_filled f g es
  filled_twice f g (call (c ∷ cs) es) = ap (call (c ∷ cs)) (all_filled_twice f g es)
  filled_twice f g (member e name) = ap (λ t. member t name) (filled_twice f g e)
  filled_twice f g (index e i) =
      let p = filled_twice f g e in
      let q = filled_twice f g i in
      λ t. index (p t) (q t)

  all_filled_twice : (f g : Frame) (es : Trees) → fill_all f (fill_all g es) ≡ fill_all (fill_frame f g) es
  all_filled_twice f g tree.none = refl
  all_filled_twice f g (more e es) =
      let p = filled_twice f g e in
      let q = all_filled_twice f g es in
      λ t. more (p t) (q t)
