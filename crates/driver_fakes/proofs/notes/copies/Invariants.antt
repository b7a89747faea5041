use Rattle.std.proofs.Common.{◌≡◌, ◌++◌, length, drop}
use Rattle.driver_fakes.specs.Kept.{notes_in, size_of}
use Rattle.driver_fakes.proofs.notes.copies.Given as goal

abbrev pub invariant-loop-entry : goal.invariant-loop-entry
invariant-loop-entry l = record {
  same : l.notes.items ++ notes_in (drop l.entry-index l.entries) l.rest ≡ notes_in l.entries l.bytes;
  size : size_of (drop l.entry-index l.entries) ≡ length l.rest;
}
