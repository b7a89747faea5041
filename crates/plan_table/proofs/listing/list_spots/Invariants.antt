use Rattle.std.proofs.Common.{◌≡◌, ◌++◌, map, drop}
use Rattle.reading.specs.World.{Each}
use Rattle.plan_table.specs.Opened.{opened_of}
use Rattle.plan_table.specs.Lines.{IsPlaced, new_line}
use Rattle.plan_table.specs.Keys.{Indexes}
use Rattle.plan_table.proofs.listing.list_spots.Given as goal

abbrev pub invariant-loop-spot : goal.invariant-loop-spot
invariant-loop-spot l =
    (l.lines.items ++ map new_line (drop l.spot-index l.spots) ≡ l.initial.lines.items ++ map new_line l.spots)
    × (Indexes (map opened_of l.frames) l.index l.lines.items
    × Each (IsPlaced (map opened_of l.frames)) (drop l.spot-index l.spots))
