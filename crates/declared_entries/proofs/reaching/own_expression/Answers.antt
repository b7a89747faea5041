use Rattle.std.proofs.Common.{length}
use Rattle.bicep_resolved.specs.View.{source_of}
use Rattle.declared_table.proofs.HoleLemmas.{known_expressions}
use Rattle.declared_table.specs.Seen.{file_in, files_in, is_known}
use Rattle.declared_entries.proofs.reaching.own_expression.Goals as goal

pub returns : goal.returns
returns c =
    let s = c.args.table.now in
    c.made_holes.ensures
    (known_expressions (file_in s) (files_in s) c.requires.sound (length (file_in s).symbols) (is_known s)
    (source_of c.args.own.now) c.requires.own)
