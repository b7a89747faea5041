use Rattle.std.proofs.Common.{sym, subst}
use Rattle.arm_expr.specs.Tree.{index}
use Rattle.emitted_parts.specs.Emitted.{Frame}
use Rattle.emission_laws.specs.Holes.{fill}
use Rattle.emitted_sizes.specs.Extent.{IsOf}
use Rattle.emitted_sizes.specs.declared.extent.Extent.{Extent}
use Rattle.kept_expressions.specs.Probes.{deep, wide, probe}
use Rattle.kept_parts.proofs.frames.part_holed.Goals as goal

pub returns : goal.returns
returns c = λ a i same h g.
    let is : (f : Frame) (x : Extent) → IsOf (index a (fill f i)) x → IsOf (fill f (index a i)) x =
    λ f x k. subst (λ u. IsOf (index u (fill f i)) x) (sym (same f)) k in
    let d = c.saturating_add-depth.result in
    c.holed.ensures (index a i) record {
      least = is (probe (deep 0) (deep 0)) c.plain_part-smallest.result
          (c.plain_part-smallest.ensures a (fill (probe (deep 0) (deep 0)) i) h
          (c.filled.ensures i (probe (deep 0) (deep 0)) g c.least.ensures));
      wide_item = is (probe wide (deep 0)) c.plain_part.result
          (c.plain_part.ensures a (fill (probe wide (deep 0)) i) h
          (c.filled-2.ensures i (probe wide (deep 0)) g c.wide_item.ensures));
      wide_index = is (probe (deep 0) wide) c.plain_part-2.result
          (c.plain_part-2.ensures a (fill (probe (deep 0) wide) i) h
          (c.filled-3.ensures i (probe (deep 0) wide) g c.wide_index.ensures));
      deep_item = subst (λ n. IsOf (fill (probe (deep n) (deep 0)) (index a i)) c.plain_part-3.result)
          c.saturating_add-depth.ensures
          (is (probe (deep d) (deep 0)) c.plain_part-3.result
          (c.plain_part-3.ensures a (fill (probe (deep d) (deep 0)) i) h
          (c.filled-4.ensures i (probe (deep d) (deep 0)) g c.deep_item.ensures)));
      deep_index = subst (λ n. IsOf (fill (probe (deep 0) (deep n)) (index a i)) c.plain_part-4.result)
          c.saturating_add-depth.ensures
          (is (probe (deep 0) (deep d)) c.plain_part-4.result
          (c.plain_part-4.ensures a (fill (probe (deep 0) (deep d)) i) h
          (c.filled-5.ensures i (probe (deep 0) (deep d)) g c.deep_index.ensures)));
    }
