-- The log of a disk in memory: its changes, and the bytes of its writes one after the other.
use Rattle.std.specs.Prelude.{ℕ, ◌+◌, List, [], ◌∷◌, take, drop}
use Rattle.mem_disk.specs.declared.change.Change.{Change}
use Rattle.mem_disk.specs.declared.change.Change.TheVariants.{Wrote, Tore, Resized, ToreOff, Synced}
use Rattle.mem_disk.specs.declared.change.Entry.{Entry}
use Rattle.mem_disk.specs.Moves.{Move, Step, wrote, tore, shortened, tore_off, synced}

-- how many bytes a change writes
abbrev pub size_of : Change → ℕ
size_of (Wrote at count) = count
size_of (Tore at count) = count
size_of (Resized length) = 0
size_of (ToreOff length) = 0
size_of Synced = 0

-- the move that a change is, with the bytes that it writes
abbrev pub move_of : Change → List ℕ → Move
move_of (Wrote at count) bytes = wrote at bytes
move_of (Tore at count) bytes = tore at bytes
move_of (Resized length) bytes = shortened length
move_of (ToreOff length) bytes = tore_off length
move_of Synced bytes = synced

-- the steps that the entries are, with these bytes of their writes
abbrev pub steps_of : List ℕ → List Entry → List Step
steps_of bytes [] = []
steps_of bytes (entry ∷ entries) = (entry.part, move_of entry.change (take (size_of entry.change) bytes))
    ∷ steps_of (drop (size_of entry.change) bytes) entries

-- how many bytes the entries write together
abbrev pub total : List Entry → ℕ
total [] = 0
total (entry ∷ entries) = size_of entry.change + total entries
