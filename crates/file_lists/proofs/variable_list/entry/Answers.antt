use Rattle.std.proofs.Common.{sym, ap, ◌∙◌}
use Rattle.std.specs.Prelude.{option_map}
use Rattle.bicep_resolved.specs.View.{value_of}
use Rattle.bicep_meaning.specs.Files.{symbol_name}
use Rattle.emitted_values.specs.Files.{IsVariable}
use Rattle.emitted_values.specs.Seen.{file_in, files_in}
use Rattle.file_lists.specs.Lists.{variable_name, entry_at}
use Rattle.file_lists.proofs.PartLemmas.{part_there, no_name}
use Rattle.file_lists.proofs.variable_list.entry.Goals as goal

pub variable-requires-clause-within : goal.variable-requires-clause-within
variable-requires-clause-within c =
    c.requires.fits c.args.number c.in-Some.name.now (value_of c.args.value.now) c.requires.entry
    (sym c.name_of.ensures ∙ ap (option_map (λ t. t.now)) c.in-Some.is)

pub returns-in-Some : goal.returns-in-Some
returns-in-Some c =
    let s = c.args.table.now in
    part_there variable_name (IsVariable (files_in s) (file_in s)) (symbol_name (file_in s) c.args.number)
    (entry_at s c.args.number) c.in-Some.name.now (value_of c.args.value.now)
    (sym c.name_of.ensures ∙ ap (option_map (λ t. t.now)) c.in-Some.is) c.requires.entry c.variable.result
    c.there.result c.variable.ensures.name c.variable.ensures.variable c.there.ensures

pub returns-in-None : goal.returns-in-None
returns-in-None c =
    let s = c.args.table.now in
    no_name variable_name (IsVariable (files_in s) (file_in s)) (symbol_name (file_in s) c.args.number)
    (entry_at s c.args.number) (sym c.name_of.ensures ∙ ap (option_map (λ t. t.now)) c.in-None.is)
