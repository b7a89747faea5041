-- The contents of a disk in memory.
use Rattle.std.specs.Prelude.{ℕ, ◌+◌, ◌≤◌, List, length}
use Rattle.std.specs.Vec.{vec_capacity}
use Rattle.arm_edges.specs.Disk.{Parts}
use Rattle.arm_edges.specs.declared.disk.Part.{Part}
use Rattle.arm_edges.specs.declared.disk.Part.TheVariants.{A, B}
use Rattle.mem_disk.specs.declared.contents.Contents.{Contents}

-- the bytes of both parts
abbrev pub contents_of : Contents → Parts
contents_of contents = record { a = contents.a.items; b = contents.b.items }

-- with that part changed
abbrev pub with_part : Part → List ℕ → Parts → Parts
with_part A bytes parts = record parts { a = bytes }
with_part B bytes parts = record parts { b = bytes }

-- room was taken for so many bytes more in each part
abbrev pub HasRoom : ℕ → Contents → Type 0
HasRoom room contents = (length contents.a.items + room ≤ vec_capacity contents.a)
    × (length contents.b.items + room ≤ vec_capacity contents.b)
