-- What a table of the code says of symbols.
use Rattle.std.specs.Prelude.{Bool, false, List, slice_index_or}
use Rattle.bicep_states.specs.declared.table.StateTable.{StateTable}
use Rattle.bicep_mentions.specs.States.{StateReads}

-- a number beyond a list reads no state
abbrev pub reads_in : List Bool → List Bool → StateReads
reads_in own whole = record { own = λ n. slice_index_or own n false; whole = λ n. slice_index_or whole n false }

abbrev pub known : StateTable → StateReads
known t = reads_in t.own.items t.whole.items
