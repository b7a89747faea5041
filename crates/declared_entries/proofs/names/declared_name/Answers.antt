use Rattle.std.proofs.Common.{codes, map, ap, sym, ◌∙◌}
use Rattle.std.specs.Prelude.{Some}
use Rattle.bicep_resolved.specs.View.{property_of, properties}
use Rattle.bicep_declared.specs.View.{declared_tree, body_tree}
use Rattle.bicep_declared.specs.declared.declared.Declared.{Declared}
use Rattle.bicep_meaning.specs.Declared.{body_of}
use Rattle.bicep_resolved.specs.Source.{field_named}
use Rattle.declared_table.specs.Seen.{file_in}
use Rattle.declared_entries.proofs.SoundLemmas.{name_value}
use Rattle.declared_entries.proofs.names.declared_name.Goals as goal

pub resource_name-requires-clause-value : goal.resource_name-requires-clause-value
resource_name-requires-clause-value c = λ v e.
    let w = c.in-Resource in
    name_value (file_in c.args.table.now) c.args.number (Some (declared_tree c.args.declared.now))
    c.requires.sound c.requires.declared (body_tree w.body)
    (ap (λ (x : Declared). body_of (declared_tree x)) w.is) v
    (ap (λ ps. field_named (codes "name") (properties (map property_of ps))) (sym c.as_slice.ensures.value)
    ∙ sym c.name_field.ensures ∙ e)

pub module_name-requires-clause-value : goal.module_name-requires-clause-value
module_name-requires-clause-value c = λ v e.
    let w = c.in-Module in
    name_value (file_in c.args.table.now) c.args.number (Some (declared_tree c.args.declared.now))
    c.requires.sound c.requires.declared (body_tree w.body)
    (ap (λ (x : Declared). body_of (declared_tree x)) w.is) v
    (ap (λ ps. field_named (codes "name") (properties (map property_of ps)))
    (sym c.as_slice-in-Module.ensures.value)
    ∙ sym c.name_field-value.ensures ∙ e)
