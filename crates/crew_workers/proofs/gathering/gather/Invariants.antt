use Rattle.std.proofs.Common.{◌≡◌, ℕ, ◌+◌, ◌<◌, ◌≤◌, length, get_or, vec_items, vec_len, vec_capacity}
use Rattle.std.specs.Vec.Iter.{into_iter_items, into_iter_len}
use Rattle.crew_workers.specs.Posts.{Gave, marks}
use Rattle.crew_workers.specs.Threads.{HasThreads}
use Rattle.crew_workers.proofs.gathering.gather.Given as goal
use Rattle.seat_calls.specs.Dones.{Made}

abbrev pub invariant-loop-post : goal.invariant-loop-post
invariant-loop-post g l =
    let done = vec_len l.stations in let rest = l.post-iterator in
    (done + into_iter_len rest ≡ vec_len l.fn.posts) × (vec_len l.fn.posts ≤ vec_capacity l.stations)
    × ((k : ℕ) (d : _) → k < into_iter_len rest
    → get_or (into_iter_items rest) k d ≡ get_or (vec_items l.fn.posts) (done + k) d)
    × ((k : ℕ) (d : _) (f : _) → k < done
    → Gave (Made g.P.Serves.may g.P.Serves.tells g.P.Serves.calls g.P.Serves.faults)
    (get_or (vec_items l.fn.posts) k f) (get_or (vec_items l.stations) k d))
    × (length l.left.items ≡ into_iter_len rest)
    × HasThreads (marks (into_iter_items rest)) l.left.items
