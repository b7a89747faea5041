use Rattle.std.proofs.Common.{◌≡◌, ◌<◌, ℕ, get_or, vec_len, vec_items}
use Rattle.crossbeam_channel.specs.Claims.{view}
use Rattle.seat_calls.specs.Dones.{Made}
use Rattle.crew_workers.specs.Posts.{IsDismissed, marks}
use Rattle.worker_crew.specs.Rigs.{IsRigged, sent_at}
use Rattle.worker_crew.proofs.rig.dismiss_all.Given as goal

abbrev pub invariant-loop-at : goal.invariant-loop-at
invariant-loop-at g l = (vec_len l.posts_left ≡ vec_len l.fn.posts)
    × IsRigged (Made g.P.Serves.may g.P.Serves.tells g.P.Serves.calls g.P.Serves.faults) l.ends
    (vec_items l.posts_left) l.pass
    × (marks (vec_items l.posts_left) ≡ marks (vec_items l.fn.posts))
    × ((k : ℕ) → sent_at (vec_items l.posts_left) k ≡ sent_at (vec_items l.fn.posts) k)
    × ((k : ℕ) (d : _) → k < l.at → IsDismissed (get_or (vec_items l.posts_left) k d).place
    (view (get_or (vec_items l.posts_left) k d).orders).sent)
