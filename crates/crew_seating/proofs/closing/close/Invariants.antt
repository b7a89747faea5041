use Rattle.std.proofs.Common.{◌≡◌, ℕ, ◌+◌, ◌<◌, ◌≤◌, None, get_or, vec_items, vec_len, vec_capacity}
use Rattle.std.specs.Vec.Iter.{into_iter_items, into_iter_len}
use Rattle.crossbeam_channel.specs.Claims.{view}
use Rattle.crossbeam_channel.specs.Ends.{sends_on}
use Rattle.crew_seating.specs.Closed.{HasLeft, HasNone, IsDriver}
use Rattle.crew_seating.proofs.closing.close.Given as goal

abbrev pub invariant-loop-station : goal.invariant-loop-station
invariant-loop-station g l =
    let done = vec_len l.seats in let rest = l.station-iterator in
    (done + into_iter_len rest ≡ vec_len l.fn.stations) × (vec_len l.fn.stations ≤ vec_capacity l.seats)
    × ((k : ℕ) (d : _) → k < into_iter_len rest
    → get_or (into_iter_items rest) k d ≡ get_or (vec_items l.fn.stations) (done + k) d)
    × IsDriver (sends_on l.to) l.driver
    × (((view l.driver).made ≡ (view l.fn.pass).made) × ((view l.driver).got ≡ (view l.fn.pass).got))
    × ((k : ℕ) (d : _) (s : _) → k < done
    → ((get_or (vec_items l.seats) k s).provider ≡ (get_or (vec_items l.fn.stations) k d).worker.provider)
    × ((get_or (vec_items l.seats) k s).job ≡ None)
    × HasLeft (view l.fn.pass).got (get_or (vec_items l.fn.stations) k d))
    × ((k : ℕ) → 0 < done → (view l.fn.pass).made ≤ k → HasNone (view l.fn.pass).got k)
