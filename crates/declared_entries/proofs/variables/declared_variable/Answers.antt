use Rattle.std.proofs.Common.{ap, sym, subst}
use Rattle.std.specs.Prelude.{IfOk, Some}
use Rattle.bicep_declared.specs.View.{declared_tree}
use Rattle.bicep_declared.specs.declared.declared.Declared.{Declared}
use Rattle.emitted_declarations.specs.Declared.{variable_of}
use Rattle.kept_expressions.specs.Kept.{IsKept}
use Rattle.declared_table.specs.Seen.{file_in, files_in, emission_in}
use Rattle.declared_entries.proofs.variables.declared_variable.Goals as goal

pub returns-in-Variable : goal.returns-in-Variable
returns-in-Variable c =
    let s = c.args.table.now in
    subst (λ o. IfOk c.own_variable.result
    (IsKept (variable_of (file_in s) (files_in s) (emission_in s) c.args.number o)))
    (sym (ap (λ (x : Declared). Some (declared_tree x)) c.in-Variable.is))
    (c.own_variable.ensures c.in-Variable.field-0)
