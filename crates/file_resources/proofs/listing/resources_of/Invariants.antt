use Rattle.std.proofs.Common.{◌≡◌, ◌≤◌, ℕ, None, Some, length}
use Rattle.std.specs.Prelude.{slice_get, slice_index_or}
use Rattle.file_resources.specs.Built.{templates_of}
use Rattle.file_resources.proofs.ListLemmas.{AreBegun, IsNoted}
use Rattle.file_resources.proofs.listing.resources_of.Given as goal

-- what is built so far, and what is left; the templates that are left are in their places
abbrev pub invariant-loop-place : goal.invariant-loop-place
invariant-loop-place l = record {
  built : AreBegun (IsNoted l.form l.table l.metadata (templates_of l.fn.templates.items)) l.numbers l.place
      l.all;
  left : (k m : ℕ) → l.place ≤ k → slice_get l.numbers k ≡ Some m
      → slice_index_or l.rest.items m None ≡ slice_index_or l.fn.templates.items m None;
  size : length l.rest.items ≡ length l.fn.templates.items;
}
