use Rattle.std.proofs.Common.{sym, subst}
use Rattle.bicep_emission.specs.Emitted.{Frame}
use Rattle.emission_laws.specs.Holes.{fill}
use Rattle.emitted_sizes.specs.Extent.{IsOf}
use Rattle.emitted_sizes.specs.declared.extent.Extent.{Extent}
use Rattle.measured_holes.specs.Probes.{deep, wide, probe}
use Rattle.kept_heads.specs.Joints.{joined}
use Rattle.kept_heads.proofs.JointLemmas.{joined_filled}
use Rattle.kept_heads.proofs.joints.joint_holed.Goals as goal

pub returns : goal.returns
returns c = λ a b g h.
    let j = c.args.joint in
    let is : (f : Frame) (x : Extent) → IsOf (joined j (fill f a) (fill f b)) x → IsOf (fill f (joined j a b)) x =
    λ f x e. subst (λ u. IsOf u x) (sym (joined_filled f j a b)) e in
    let d = c.saturating_add-depth.result in
    c.holed.ensures (joined j a b) record {
      least = is (probe (deep 0) (deep 0)) c.joint_extent-smallest.result
          (c.joint_extent-smallest.ensures (fill (probe (deep 0) (deep 0)) a) (fill (probe (deep 0) (deep 0)) b)
          (c.filled.ensures a (probe (deep 0) (deep 0)) g c.least.ensures)
          (c.filled-2.ensures b (probe (deep 0) (deep 0)) h c.least-2.ensures));
      wide_item = is (probe wide (deep 0)) c.joint_extent.result
          (c.joint_extent.ensures (fill (probe wide (deep 0)) a) (fill (probe wide (deep 0)) b)
          (c.filled-3.ensures a (probe wide (deep 0)) g c.wide_item.ensures)
          (c.filled-4.ensures b (probe wide (deep 0)) h c.wide_item-2.ensures));
      wide_index = is (probe (deep 0) wide) c.joint_extent-2.result
          (c.joint_extent-2.ensures (fill (probe (deep 0) wide) a) (fill (probe (deep 0) wide) b)
          (c.filled-5.ensures a (probe (deep 0) wide) g c.wide_index.ensures)
          (c.filled-6.ensures b (probe (deep 0) wide) h c.wide_index-2.ensures));
      deep_item = subst (λ n. IsOf (fill (probe (deep n) (deep 0)) (joined j a b)) c.joint_extent-3.result)
          c.saturating_add-depth.ensures
          (is (probe (deep d) (deep 0)) c.joint_extent-3.result
          (c.joint_extent-3.ensures (fill (probe (deep d) (deep 0)) a) (fill (probe (deep d) (deep 0)) b)
          (c.filled-7.ensures a (probe (deep d) (deep 0)) g c.deep_item-item.ensures)
          (c.filled-8.ensures b (probe (deep d) (deep 0)) h c.deep_item-item.ensures)));
      deep_index = subst (λ n. IsOf (fill (probe (deep 0) (deep n)) (joined j a b)) c.joint_extent-4.result)
          c.saturating_add-depth.ensures
          (is (probe (deep 0) (deep d)) c.joint_extent-4.result
          (c.joint_extent-4.ensures (fill (probe (deep 0) (deep d)) a) (fill (probe (deep 0) (deep d)) b)
          (c.filled-9.ensures a (probe (deep 0) (deep d)) g c.deep_index-index.ensures)
          (c.filled-10.ensures b (probe (deep 0) (deep d)) h c.deep_index-index.ensures)));
    }
