use Rattle.std.proofs.Common.{length}
use Rattle.bicep_resolved.specs.View.{value_of}
use Rattle.declared_table.proofs.HoleLemmas.{known_values}
use Rattle.declared_table.specs.Seen.{file_in, files_in, is_known}
use Rattle.declared_entries.proofs.names.own_value.Goals as goal

pub returns : goal.returns
returns c =
    let s = c.args.table.now in
    c.made_value_holes.ensures
    (known_values (file_in s) (files_in s) c.requires.sound (length (file_in s).symbols) (is_known s)
    (value_of c.args.value.now) c.requires.value)
