use Rattle.std.proofs.Common.{Some, None, sym, ap, ◌∙◌}
use Rattle.std.specs.Prelude.{option_map, if◌then◌else◌}
use Rattle.bicep_resolved.specs.View.{value_of}
use Rattle.bicep_meaning.specs.Instances.{variable_by}
use Rattle.emitted_templates.specs.Seen.{file_in}
use Rattle.file_limits.proofs.EntryLemmas.{entry_there, entry_missing}
use Rattle.file_limits.proofs.measured.measured_variable.Goals as goal

pub returns-then-is_entry : goal.returns-then-is_entry
returns-then-is_entry c =
    let f = file_in c.args.table.now in
    entry_there c.args.table.now c.args.number (value_of c.args.value.now)
    (ap (variable_by f c.args.number) c.requires.declared.1
    ∙ ap (λ b. if b then Some (value_of c.args.value.now) else None) (sym c.is_entry.ensures ∙ c.if-is_entry.true))
    (option_map (λ t. t.now) c.name_of.result) c.name_of.ensures c.measured_entry.result c.measured_entry.ensures

pub returns-else-is_entry : goal.returns-else-is_entry
returns-else-is_entry c =
    let f = file_in c.args.table.now in
    entry_missing c.args.table.now c.args.number
    (ap (variable_by f c.args.number) c.requires.declared.1
    ∙ ap (λ b. if b then Some (value_of c.args.value.now) else None) (sym c.is_entry.ensures ∙ c.if-is_entry.false))
    c.nothing.result c.nothing.ensures.nothing
