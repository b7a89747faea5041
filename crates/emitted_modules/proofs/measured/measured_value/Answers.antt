use Rattle.std.proofs.Common.{Some, codes, refl, sym, subst, ◌∙◌}
use Rattle.std.specs.Prelude.{IfOk}
use Rattle.foundation.proofs.AsciiWords.{word}
use Rattle.bicep_resolved.specs.View.{value_of}
use Rattle.emitted_resources.specs.Extremes.{value_extremes}
use Rattle.emitted_resources.specs.Filled.{emission_sight}
use Rattle.emitted_resources.specs.Measures.{IsOf}
use Rattle.emitted_resources.specs.Sight.{value}
use Rattle.emitted_modules.specs.Arguments.{argument_value}
use Rattle.emitted_modules.proofs.measured.measured_value.Goals as goal

pub returns-in-Ok : goal.returns-in-Ok
returns-in-Ok c = λ fs h.
    let w = emission_sight c.args.table.now in
    let v = value_of c.args.value.now in
    subst (λ r. IfOk r (IsOf (value_extremes (argument_value w v fs)))) (sym c.letting_go.ensures)
    (subst (λ x. IfOk c.measured_content.result (IsOf (value_extremes (value w (Some x) v fs))))
    (c.in-Ok.ensures ∙ word (codes "value") refl) (c.measured_content.ensures fs h))
