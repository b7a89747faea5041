use Rattle.std.proofs.Common.{Some, None, sym, ap, ◌∙◌}
use Rattle.std.specs.Prelude.{if◌then◌else◌}
use Rattle.bicep_resolved.specs.View.{value_of}
use Rattle.bicep_declared.specs.View.{declared_tree}
use Rattle.bicep_meaning.specs.Files.{symbol_name}
use Rattle.bicep_meaning.specs.Instances.{variable_by}
use Rattle.emitted_values.specs.Files.{IsVariable}
use Rattle.emitted_values.specs.Seen.{file_in, files_in}
use Rattle.file_lists.specs.Lists.{variable_name, entry_at}
use Rattle.file_lists.proofs.PartLemmas.{no_part}
use Rattle.file_lists.proofs.variable_list.variable_of.Goals as goal

pub entry-requires-clause-entry : goal.entry-requires-clause-entry
entry-requires-clause-entry c =
    let f = file_in c.args.table.now in
    ap (variable_by f c.args.number) (c.requires.declared ∙ ap (λ d. Some (declared_tree d)) c.in-Variable.is)
    ∙ ap (λ b. if b then Some (value_of c.in-Variable.value) else None) (sym c.is_entry.ensures ∙ c.if-is_entry.true)

pub returns-else-is_entry : goal.returns-else-is_entry
returns-else-is_entry c =
    let s = c.args.table.now in
    let f = file_in s in
    no_part variable_name (IsVariable (files_in s) f) (symbol_name f c.args.number) (entry_at s c.args.number)
    (ap (variable_by f c.args.number) (c.requires.declared ∙ ap (λ d. Some (declared_tree d)) c.in-Variable.is)
    ∙ ap (λ b. if b then Some (value_of c.in-Variable.value) else None)
    (sym c.is_entry.ensures ∙ c.if-is_entry.false))
