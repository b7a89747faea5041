use Rattle.std.proofs.Common.{◌≡◌, drop, map}
use Rattle.std.specs.Prelude.{slice_get}
use Rattle.plan_cells.specs.Resources.{nested_from}
use Rattle.plan_table.specs.Listed.{listed_of}
use Rattle.plan_listing.proofs.numbers.nested_number.Given as goal

abbrev pub invariant-loop-number : goal.invariant-loop-number
invariant-loop-number l =
    slice_get (nested_from l.number (map listed_of (drop l.number l.resources))) l.left
    ≡ slice_get (nested_from 0 (map listed_of l.resources)) l.place
