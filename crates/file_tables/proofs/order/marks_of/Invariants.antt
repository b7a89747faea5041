use Rattle.std.proofs.Common.{◌≡◌, List, length, map}
use Rattle.bicep_names.specs.declared.kind.Kind.{Kind}
use Rattle.bicep_declared.specs.View.{declared_tree}
use Rattle.bicep_mentions.specs.Agreement.{IsKnown}
use Rattle.bicep_mentions.specs.Entries.{state_reads, has_entry}
use Rattle.bicep_states.specs.View.{known}
use Rattle.file_tables.proofs.MarkLemmas.{AreMarks}
use Rattle.file_tables.proofs.order.marks_of.Given as goal

-- the declarations before have their marks
abbrev pub invariant-loop-number : goal.invariant-loop-number
invariant-loop-number l =
    ((kinds : List Kind) → IsKnown (known l.table) (state_reads kinds (map declared_tree l.declarations))
    → AreMarks (has_entry kinds (map declared_tree l.declarations)) 0 l.marks.items)
    × (length l.marks.items ≡ l.number)
