use Rattle.std.proofs.Common.{sym, subst}
use Rattle.emitted_parts.specs.Emitted.{Frame}
use Rattle.emission_laws.specs.Holes.{fill}
use Rattle.emitted_sizes.specs.Extent.{IsOf}
use Rattle.emitted_sizes.specs.declared.extent.Extent.{Extent}
use Rattle.kept_expressions.specs.Probes.{deep, wide, probe}
use Rattle.kept_parts.specs.Pieces.{piece_of}
use Rattle.kept_parts.proofs.PieceLemmas.{piece_filled}
use Rattle.kept_parts.proofs.numbered.piece_holed.Goals as goal

pub returns : goal.returns
returns c = λ a g.
    let p = c.args.piece in
    let is : (f : Frame) (x : Extent) → IsOf (piece_of p (fill f a)) x → IsOf (fill f (piece_of p a)) x =
    λ f x h. subst (λ u. IsOf u x) (sym (piece_filled f p a)) h in
    let d = c.saturating_add-depth.result in
    c.holed.ensures (piece_of p a) record {
      least = is (probe (deep 0) (deep 0)) c.piece_extent-smallest.result
          (c.piece_extent-smallest.ensures (fill (probe (deep 0) (deep 0)) a)
          (c.filled.ensures a (probe (deep 0) (deep 0)) g c.least.ensures));
      wide_item = is (probe wide (deep 0)) c.piece_extent.result
          (c.piece_extent.ensures (fill (probe wide (deep 0)) a)
          (c.filled-2.ensures a (probe wide (deep 0)) g c.wide_item.ensures));
      wide_index = is (probe (deep 0) wide) c.piece_extent-2.result
          (c.piece_extent-2.ensures (fill (probe (deep 0) wide) a)
          (c.filled-3.ensures a (probe (deep 0) wide) g c.wide_index.ensures));
      deep_item = subst (λ n. IsOf (fill (probe (deep n) (deep 0)) (piece_of p a)) c.piece_extent-3.result)
          c.saturating_add-depth.ensures
          (is (probe (deep d) (deep 0)) c.piece_extent-3.result
          (c.piece_extent-3.ensures (fill (probe (deep d) (deep 0)) a)
          (c.filled-4.ensures a (probe (deep d) (deep 0)) g c.deep_item.ensures)));
      deep_index = subst (λ n. IsOf (fill (probe (deep 0) (deep n)) (piece_of p a)) c.piece_extent-4.result)
          c.saturating_add-depth.ensures
          (is (probe (deep 0) (deep d)) c.piece_extent-4.result
          (c.piece_extent-4.ensures (fill (probe (deep 0) (deep d)) a)
          (c.filled-5.ensures a (probe (deep 0) (deep d)) g c.deep_index.ensures)));
    }
