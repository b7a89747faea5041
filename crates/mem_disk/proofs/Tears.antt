-- Writes and cuts that are there in part.
use Rattle.std.proofs.Common.{◌≡◌, ℕ, ◌+◌, ◌≤◌, List, length, subst, sym, arith}
use Rattle.arm_edges.specs.declared.disk.Part.{Part}
use Rattle.arm_edges.specs.declared.disk.Part.TheVariants.{A, B}
use Rattle.arm_edges.specs.Disk.{Parts, on, overwritten, resized, Torn, Cut, AreWithin}
use Rattle.mem_disk.specs.Contents.{with_part}
use Rattle.mem_disk.specs.ReadImages.{torn_overwritten, torn_wider, cut_resized, length_overwritten, length_resized}

-- a write of no more bytes than n
pub torn_by : (at n : ℕ) (bytes old new : List ℕ) → new ≡ overwritten at bytes old → length bytes ≤ n
    → Torn at n old new
torn_by at n bytes old new is le =
    rw is (torn_wider at (length bytes) n old (overwritten at bytes old) le (torn_overwritten at bytes old))

pub cut_by : (n : ℕ) (old new : List ℕ) → new ≡ resized n old → Cut n old new
cut_by n old new is = rw is (cut_resized n old)

-- parts of which one changes stay within a reach where that one does
within_part : (reach : ℕ) (part : Part) (file : List ℕ) (parts : Parts) → AreWithin reach parts → length file ≤ reach
    → AreWithin reach (with_part part file parts)
within_part reach A file parts within short = (short, within.1)
within_part reach B file parts within short = (within.0, short)

part_within : (reach : ℕ) (part : Part) (parts : Parts) → AreWithin reach parts → length (on part parts) ≤ reach
part_within reach A parts within = within.0
part_within reach B parts within = within.1

pub within_written : (reach at : ℕ) (part : Part) (bytes : List ℕ) (old new : Parts)
    → new ≡ with_part part (overwritten at bytes (on part old)) old → at + length bytes ≤ reach → AreWithin reach old
    → AreWithin reach new
within_written reach at part bytes old new is fits within =
    subst (λ (parts : Parts). AreWithin reach parts) (sym is)
    (within_part reach part (overwritten at bytes (on part old)) old within
    (omega (arith, length_overwritten at bytes (on part old), part_within reach part old within)))

pub within_cut : (reach n : ℕ) (part : Part) (old new : Parts) → new ≡ with_part part (resized n (on part old)) old
    → n ≤ reach → AreWithin reach old → AreWithin reach new
within_cut reach n part old new is fits within =
    subst (λ (parts : Parts). AreWithin reach parts) (sym is)
    (within_part reach part (resized n (on part old)) old within (omega (arith, length_resized n (on part old))))
