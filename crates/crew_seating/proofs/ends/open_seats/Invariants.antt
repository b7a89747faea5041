use Rattle.std.proofs.Common.{◌≡◌, ◌≤◌, true, false, [], vec_items, vec_capacity}
use Rattle.std.specs.VecDeque.{deque_capacity}
use Rattle.crossbeam_channel.specs.Claims.{view, IsSeatAt}
use Rattle.crossbeam_channel.specs.Ends.{sends_on}
use Rattle.crew_channels.specs.Results.{results}
use Rattle.crew_seating.specs.Opened.{AreOpen}
use Rattle.crew_seating.proofs.ends.open_seats.Given as goal

abbrev pub invariant-loop-number : goal.invariant-loop-number
invariant-loop-number l = IsSeatAt (sends_on l.to) l.pass × (view l.pass ≡ results true false l.number 0 [] [])
    × AreOpen (sends_on l.to) l.number (vec_items l.channels) l.passes.items
    × ((l.fn.seats ≤ vec_capacity l.channels) × (l.fn.seats ≤ deque_capacity l.passes))
