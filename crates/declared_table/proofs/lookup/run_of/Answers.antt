use Rattle.std.proofs.Common.{subst}
use Rattle.std.specs.Prelude.{option_to_list}
use Rattle.measured_expressions.specs.Spans.{AreSpans}
use Rattle.declared_table.proofs.RunLemmas.{span_there, span_absent}
use Rattle.declared_table.proofs.lookup.run_of.Goals as goal

pub returns-in-Some : goal.returns-in-Some
returns-in-Some c = λ fs h.
    span_there fs c.in-Some.span (subst (λ o. AreSpans fs (option_to_list o)) c.in-Some.is h)

pub returns-in-None : goal.returns-in-None
returns-in-None c = λ fs h.
    span_absent fs _ (subst (λ o. AreSpans fs (option_to_list o)) c.in-None.is h)
    (c.no_value-nothing.ensures, c.no_value-nothing.ensures)
