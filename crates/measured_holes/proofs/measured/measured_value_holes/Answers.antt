use Rattle.std.proofs.Common.{◌∷◌, [], subst}
use Rattle.emission_laws.specs.Holes.{fill}
use Rattle.emitted_sizes.specs.Extent.{IsOf}
use Rattle.measured_holes.specs.Probes.{deep, wide, probe}
use Rattle.measured_holes.proofs.measured.measured_value_holes.Goals as goal

pub returns : goal.returns
returns g c = λ t e.
    c.holed.ensures t record {
      least = subst (λ u. IsOf u c.in_ok-smallest.smallest) (e (probe (deep 0) (deep 0)))
          (c.in_ok-smallest.ensures (probe (deep 0) (deep 0) ∷ []) (c.least.ensures, tt));
      wide_item = subst (λ u. IsOf u c.in_ok-measured_value.field-0) (e (probe wide (deep 0)))
          (c.in_ok-measured_value.ensures (probe wide (deep 0) ∷ []) (c.wide_item.ensures, tt));
      wide_index = subst (λ u. IsOf u c.in_ok-measured_value-2.field-0) (e (probe (deep 0) wide))
          (c.in_ok-measured_value-2.ensures (probe (deep 0) wide ∷ []) (c.wide_index.ensures, tt));
      deep_item = subst (λ n. IsOf (fill (probe (deep n) (deep 0)) t) c.in_ok-measured_value-3.field-0)
          c.saturating_add-depth.ensures
          (subst (λ u. IsOf u c.in_ok-measured_value-3.field-0)
          (e (probe (deep c.saturating_add-depth.result) (deep 0)))
          (c.in_ok-measured_value-3.ensures (probe (deep c.saturating_add-depth.result) (deep 0) ∷ [])
          (c.deep_item.ensures, tt)));
      deep_index = subst (λ n. IsOf (fill (probe (deep 0) (deep n)) t) c.in_ok-measured_value-4.field-0)
          c.saturating_add-depth.ensures
          (subst (λ u. IsOf u c.in_ok-measured_value-4.field-0)
          (e (probe (deep 0) (deep c.saturating_add-depth.result)))
          (c.in_ok-measured_value-4.ensures (probe (deep 0) (deep c.saturating_add-depth.result) ∷ [])
          (c.deep_index.ensures, tt)));
    }
