use Rattle.declared_table.specs.Seen.{file_in, files_in, whole_in, emission_in}
use Rattle.declared_entries.proofs.MadeLemmas.{is_entry}
use Rattle.declared_entries.proofs.filling.add.Goals as goal

pub push-requires-clause-entry : goal.push-requires-clause-entry
push-requires-clause-entry c =
    let s = c.args.table.now in
    is_entry (file_in s) (files_in s) (emission_in s) (whole_in s) c.args.number c.requires.same c.in_ok-entry.entry
    c.in_ok-entry.ensures
