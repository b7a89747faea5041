use Rattle.std.proofs.Common.{◌≡◌, ℕ, ◌+◌, ◌<◌, ◌≤◌, length, get_or, vec_items, vec_len, vec_capacity}
use Rattle.std.specs.Vec.Iter.{into_iter_items, into_iter_len}
use Rattle.crew_seating.specs.Opened.{IsStationOf}
use Rattle.crew_seating.proofs.stationing.station_all.Given as goal

abbrev pub invariant-loop-seat : goal.invariant-loop-seat
invariant-loop-seat g l =
    let done = vec_len l.stations in let rest = l.seat-iterator in
    (done + into_iter_len rest ≡ vec_len l.fn.seats) × (vec_len l.fn.seats ≤ vec_capacity l.stations)
    × ((k : ℕ) (d : _) → k < into_iter_len rest
    → get_or (into_iter_items rest) k d ≡ get_or (vec_items l.fn.seats) (done + k) d)
    × (done + length l.left.items ≡ length l.fn.passes.items)
    × ((k : ℕ) (d : _) → k < length l.left.items → get_or l.left.items k d ≡ get_or l.fn.passes.items (done + k) d)
    × ((k : ℕ) (s : _) (p : _) (d : _) → k < done
    → IsStationOf (get_or (vec_items l.fn.seats) k s) (get_or l.fn.passes.items k p)
    (get_or (vec_items l.stations) k d))
