use Rattle.std.proofs.Common.{sym, subst}
use Rattle.std.specs.Prelude.{slice_get}
use Rattle.foundation.proofs.Comparisons.{lt_of_true, le_of_false}
use Rattle.bicep_emission.specs.Emitted.{item_of}
use Rattle.emitted_sizes.specs.Extent.{IsOf}
use Rattle.measured_expressions.proofs.SpanLemmas.{run_found, no_run, found_item}
use Rattle.measured_expressions.proofs.spans.item_of.Goals as goal

pub returns-in-Some : goal.returns-in-Some
returns-in-Some c = λ fs a.
    found_item (slice_get fs c.args.number) c.in-Some.span.now
    (run_found fs c.args.spans.now c.args.number c.in-Some.span.now a
    (lt_of_true _ _ (sym c.in-Some.ensures.lookup.0)) c.in-Some.ensures.lookup.1)

pub returns-in-None : goal.returns-in-None
returns-in-None c = λ fs a.
    subst (λ o. IsOf (item_of o) c.no_value.result)
    (sym (no_run fs c.args.spans.now c.args.number a (le_of_false _ _ (sym c.in-None.ensures.lookup.0))))
    c.no_value.ensures
