use Rattle.std.proofs.Common.{◌≡◌, ℕ, ◌+◌, ◌<◌, ◌≤◌, length, get_or, vec_items, vec_len, vec_capacity}
use Rattle.std.specs.Vec.Iter.{into_iter_items, into_iter_len}
use Rattle.std.specs.VecDeque.{deque_len, deque_capacity}
use Rattle.crossbeam_channel.specs.Ends.{sends_on}
use Rattle.crew_workers.specs.Posts.{IsPosted, IsStartOf, marks}
use Rattle.crew_workers.specs.Threads.{HasThreads}
use Rattle.crew_workers.proofs.mustering.muster.Given as goal
use Rattle.seat_calls.specs.Dones.{Made}

abbrev pub invariant-loop-station : goal.invariant-loop-station
invariant-loop-station g l =
    let done = vec_len l.posts in let rest = l.station-iterator in
    (done + into_iter_len rest ≡ length l.channels) × (length l.channels ≤ vec_capacity l.posts)
    × ((k : ℕ) (d : _) → k < into_iter_len rest
    → get_or (into_iter_items rest) k d ≡ get_or (vec_items l.fn.stations) (done + k) d)
    × ((k : ℕ) (d : _) (e : _) (f : _) → k < done
    → IsPosted (Made g.P.Serves.may g.P.Serves.tells g.P.Serves.calls g.P.Serves.faults) (get_or l.channels k e)
    (sends_on l.to) (get_or (vec_items l.posts) k f)
    × IsStartOf (get_or (vec_items l.fn.stations) k d) (get_or (vec_items l.posts) k f))
    × ((deque_len l.threads ≡ done) × (length l.channels ≤ deque_capacity l.threads))
    × HasThreads (marks (vec_items l.posts)) l.threads.items
