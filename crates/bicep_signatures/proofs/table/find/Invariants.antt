use Rattle.std.proofs.Common.{◌≡◌, drop, map}
use Rattle.std.specs.Str.{chars}
use Rattle.bicep_signatures.specs.Rows.{row_of}
use Rattle.bicep_signatures.specs.Table.{signatures_in}
use Rattle.bicep_signatures.proofs.table.find.Given as goal

abbrev pub invariant-loop-entry : goal.invariant-loop-entry
invariant-loop-entry l =
    signatures_in (chars l.name) (map row_of (drop l.entry-index l.entries))
    ≡ signatures_in (chars l.name) (map row_of l.entries)
