-- What a disk in memory holds, and when its calls go on.
use Rattle.std.specs.Prelude.{◌≡◌, ◌==◌, ◌<◌, ℕ, ◌+◌, ◌-◌, false, List, length, if◌then◌else◌, nat_le}
use Rattle.arm_edges.specs.declared.disk.Part.{Part}
use Rattle.mem_disk.specs.declared.mem_disk.MemDisk.{MemDisk}
use Rattle.arm_edges.specs.Calls.{is_listed, one_more}
use Rattle.mem_disk.specs.Contents.{contents_of}
use Rattle.arm_edges.specs.Disk.{Parts, on}
use Rattle.mem_disk.specs.Log.{steps_of}
use Rattle.mem_disk.specs.Moves.{Step, left_at}

-- the steps since the disk was made
abbrev pub steps_in : MemDisk → List Step
steps_in disk = steps_of disk.log.bytes.items disk.log.entries.items

-- what a read returns
abbrev pub reads_in : MemDisk → Parts
reads_in disk = contents_of disk.held

-- the number of this moment: how many steps there were
abbrev pub moment_in : MemDisk → ℕ
moment_in disk = length (steps_in disk)

-- what a crash at a moment may leave
abbrev pub left_in : MemDisk → ℕ → Parts → Type 0
left_in disk = left_at (contents_of disk.first) (steps_in disk)

-- a call is left, and the next one is none of those that fail
abbrev pub NextGoes : MemDisk → Type 0
NextGoes disk = (0 < disk.left.calls) × (is_listed disk.calls.fails.items disk.calls.made ≡ false)

-- how much room a write of n bytes at a place takes: the bytes, and the zeros of a gap before them
abbrev pub room_for : Part → ℕ → ℕ → MemDisk → ℕ
room_for part at n disk = n + (at - length (on part (reads_in disk)))

-- how much room a write of n bytes takes that fails: its bytes, where it is one of the calls that fail and they have
-- room
abbrev pub torn_room : ℕ → MemDisk → ℕ
torn_room n disk =
    if disk.left.calls == 0 then 0 else
    (if is_listed disk.calls.fails.items disk.calls.made then (if nat_le n disk.left.bytes then n else 0) else 0)

-- a call takes so many bytes of the room and one of the calls that are left, where one is, and leaves the cuts and
-- the calls that fail
pub record Spends (bytes : ℕ) (old new : MemDisk) : Type 0 where
  pub calls_left : new.left.calls ≡ old.left.calls - 1
  pub bytes_left : new.left.bytes + bytes ≡ old.left.bytes
  pub room : new.room ≡ old.room
  pub cuts : new.calls.cuts ≡ old.calls.cuts
  pub fails : new.calls.fails ≡ old.calls.fails
  pub made : new.calls.made ≡ (if old.left.calls == 0 then old.calls.made else one_more old.calls.made)

-- how far the parts go
abbrev pub reach_in : MemDisk → ℕ
reach_in disk = 18446744073709551615
