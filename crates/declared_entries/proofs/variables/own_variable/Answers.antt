use Rattle.std.proofs.Common.{sym, subst, ◌∙◌, []}
use Rattle.std.specs.Prelude.{IfOk}
use Rattle.bicep_resolved.specs.View.{value_of}
use Rattle.bicep_meaning.specs.Files.{symbol_name}
use Rattle.emitted_declarations.specs.Declared as spec
use Rattle.kept_expressions.specs.Kept.{IsKept}
use Rattle.declared_table.specs.Seen.{file_in, files_in, emission_in}
use Rattle.declared_entries.proofs.KnownLemmas.{kept_then, kept_else}
use Rattle.declared_entries.proofs.variables.own_variable.Goals as goal

pub returns-then-is_entry : goal.returns-then-is_entry
returns-then-is_entry c = λ at.
    let s = c.args.table.now in
    let n = c.args.number in
    kept_then c.variable_entry.result ((file_in s).has_entry n) (spec.variable_entry (symbol_name (file_in s) n))
    (spec.value_of (file_in s) (files_in s) (emission_in s) (value_of c.args.value.now) [])
    (sym c.is_entry.ensures ∙ c.if-is_entry.true)
    (subst (λ o. IfOk c.variable_entry.result (IsKept (spec.variable_entry o))) c.name_of.ensures
    c.variable_entry.ensures)

pub returns-else-is_entry : goal.returns-else-is_entry
returns-else-is_entry c = λ at.
    let s = c.args.table.now in
    let n = c.args.number in
    kept_else c.made_value.result ((file_in s).has_entry n) (spec.variable_entry (symbol_name (file_in s) n))
    (spec.value_of (file_in s) (files_in s) (emission_in s) (value_of c.args.value.now) [])
    (sym c.is_entry.ensures ∙ c.if-is_entry.false) c.made_value.ensures
