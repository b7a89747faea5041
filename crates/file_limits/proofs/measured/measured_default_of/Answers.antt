use Rattle.std.proofs.Common.{Some, sym, subst, ap, ◌∙◌}
use Rattle.std.specs.Prelude.{IfOk, option_and_then}
use Rattle.bicep_declared.specs.View.{declared_tree}
use Rattle.bicep_meaning.specs.Instances as source
use Rattle.measured_trees.specs.Measures.{IsOf}
use Rattle.file_limits.specs.Extremes.{default_extremes}
use Rattle.file_limits.proofs.measured.measured_default_of.Goals as goal

pub returns-in-ParameterWith : goal.returns-in-ParameterWith
returns-in-ParameterWith c =
    subst (λ o. IfOk c.measured_default.result (IsOf (default_extremes c.args.table.now o)))
    (sym (ap (option_and_then source.default_of)
    (c.requires.declared ∙ ap (λ d. Some (declared_tree d)) c.in-ParameterWith.is))) c.measured_default.ensures
