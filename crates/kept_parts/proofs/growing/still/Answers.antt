use Rattle.std.proofs.Common.{◌+◌, sym, subst}
use Rattle.emitted_parts.specs.Emitted.{Frame}
use Rattle.emission_laws.specs.Holes.{fill}
use Rattle.emitted_sizes.specs.Extent.{IsOf, bounded}
use Rattle.kept_expressions.specs.Probes.{deep, wide, probe}
use Rattle.kept_parts.proofs.growing.still.Goals as goal

pub returns : goal.returns
returns c = λ t same h.
    let n = bounded (c.args.extent.depth + 1) in
    let is : (f : Frame) → IsOf (fill f t) c.args.extent = λ f. subst (λ u. IsOf u c.args.extent) (sym (same f)) h in
    c.holed.ensures t record {
      least = is (probe (deep 0) (deep 0));
      wide_item = is (probe wide (deep 0));
      wide_index = is (probe (deep 0) wide);
      deep_item = is (probe (deep n) (deep 0));
      deep_index = is (probe (deep 0) (deep n));
    }
