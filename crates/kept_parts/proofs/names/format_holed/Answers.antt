use Rattle.std.proofs.Common.{codes, refl, subst}
use Rattle.arm_expr.specs.Tree.{text, call}
use Rattle.emitted_parts.specs.Emitted.{two}
use Rattle.emission_laws.specs.Holes.{fill, index_hole}
use Rattle.emitted_sizes.specs.Extent.{IsOf}
use Rattle.kept_expressions.specs.Probes.{deep, wide, probe}
use Rattle.kept_parts.proofs.names.format_holed.Goals as goal

pub returns : goal.returns
returns c = λ t h.
    let e = call (codes "format") (two (text t) index_hole) in
    let d = c.saturating_add-depth.result in
    c.holed.ensures e record {
      least = c.call_two-smallest.ensures (codes "format") (text t) (deep 0) refl h c.least.ensures.1;
      wide_item = c.call_two.ensures (codes "format") (text t) (deep 0) refl h c.wide_item.ensures.1;
      wide_index = c.call_two-2.ensures (codes "format") (text t) wide refl h c.wide_index.ensures.1;
      deep_item = c.call_two-3.ensures (codes "format") (text t) (deep 0) refl h c.deep_item.ensures.1;
      deep_index = subst (λ n. IsOf (fill (probe (deep 0) (deep n)) e) c.call_two-4.result)
          c.saturating_add-depth.ensures
          (c.call_two-4.ensures (codes "format") (text t) (deep d) refl h c.deep_index.ensures.1);
    }
