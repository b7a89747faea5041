use Rattle.std.proofs.Common.{sym, subst, refl}
use Rattle.std.specs.Prelude.{IfOk}
use Rattle.bicep_emission.specs.Emitted.{element, no_value}
use Rattle.kept_parts.specs.Frames.{IsKeptFrame}
use Rattle.declared_entries.proofs.reaching.element_of_nothing.Goals as goal

pub returns-in-Ok : goal.returns-in-Ok
returns-in-Ok c = λ i h.
    subst (λ x. IfOk x (IsKeptFrame (element no_value i))) (sym c.letting_go.ensures)
    (c.element_frame.ensures no_value i (λ f. refl) c.in-Ok.ensures h)
