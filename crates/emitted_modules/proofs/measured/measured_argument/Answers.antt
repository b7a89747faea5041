use Rattle.std.proofs.Common.{subst}
use Rattle.std.specs.Prelude.{IfOk}
use Rattle.emitted_resources.specs.Extremes.{value_extremes}
use Rattle.emitted_resources.specs.Filled.{emission_sight}
use Rattle.emitted_resources.specs.Measures.{IsOf}
use Rattle.emitted_modules.specs.Arguments.{argument_value}
use Rattle.emitted_modules.proofs.measured.measured_argument.Goals as goal

pub returns : goal.returns
returns c = λ fs h.
    subst
    (λ v. IfOk c.measured_value.result (IsOf (value_extremes
    (argument_value (emission_sight c.args.table.now) v fs)))) c.value_in.ensures (c.measured_value.ensures fs h)
