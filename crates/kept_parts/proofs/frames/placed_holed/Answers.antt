use Rattle.std.proofs.Common.{sym, subst}
use Rattle.emitted_parts.specs.Emitted.{Frame}
use Rattle.emission_laws.specs.Holes.{fill}
use Rattle.emitted_sizes.specs.Extent.{IsOf}
use Rattle.emitted_sizes.specs.declared.extent.Extent.{Extent}
use Rattle.kept_expressions.specs.Probes.{deep, wide, probe}
use Rattle.kept_parts.specs.Frames.{fill_frame}
use Rattle.kept_parts.proofs.FrameLemmas.{filled_twice}
use Rattle.kept_parts.proofs.frames.placed_holed.Goals as goal

pub returns : goal.returns
returns c = λ t g h k.
    let is : (f : Frame) (x : Extent) → IsOf (fill (fill_frame f g) t) x → IsOf (fill f (fill g t)) x =
    λ f x e. subst (λ u. IsOf u x) (sym (filled_twice f g t)) e in
    let d = c.saturating_add-depth.result in
    c.holed.ensures (fill g t) record {
      least = is (probe (deep 0) (deep 0)) c.filled-smallest.result
          (c.filled-smallest.ensures t (fill_frame (probe (deep 0) (deep 0)) g) h
          (c.span_of.ensures (probe (deep 0) (deep 0)) g k c.least.ensures));
      wide_item = is (probe wide (deep 0)) c.filled.result
          (c.filled.ensures t (fill_frame (probe wide (deep 0)) g) h
          (c.span_of-2.ensures (probe wide (deep 0)) g k c.wide_item.ensures));
      wide_index = is (probe (deep 0) wide) c.filled-2.result
          (c.filled-2.ensures t (fill_frame (probe (deep 0) wide) g) h
          (c.span_of-3.ensures (probe (deep 0) wide) g k c.wide_index.ensures));
      deep_item = subst (λ n. IsOf (fill (probe (deep n) (deep 0)) (fill g t)) c.filled-3.result)
          c.saturating_add-depth.ensures
          (is (probe (deep d) (deep 0)) c.filled-3.result
          (c.filled-3.ensures t (fill_frame (probe (deep d) (deep 0)) g) h
          (c.span_of-4.ensures (probe (deep d) (deep 0)) g k c.deep_item.ensures)));
      deep_index = subst (λ n. IsOf (fill (probe (deep 0) (deep n)) (fill g t)) c.filled-4.result)
          c.saturating_add-depth.ensures
          (is (probe (deep 0) (deep d)) c.filled-4.result
          (c.filled-4.ensures t (fill_frame (probe (deep 0) (deep d)) g) h
          (c.span_of-5.ensures (probe (deep 0) (deep d)) g k c.deep_index.ensures)));
    }
