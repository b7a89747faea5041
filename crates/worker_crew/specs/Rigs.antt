-- The seats as their driver sees them.
use Rattle.std.specs.Prelude.{◌≡◌, ◌<◌, ℕ, zero, suc, true, List, [], ◌∷◌, length, slice_index_or, vec_items}
use Rattle.crossbeam_channel.specs.Claims.{Pass, view, IsSeatAt}
use Rattle.crossbeam_channel.specs.Ends.{sends_on, receives_on}
use Rattle.crew_channels.specs.Orders.{jobs_in}
use Rattle.crew_channels.specs.declared.results.Results.{Results}
use Rattle.crew_seating.specs.Opened.{IsPaired}
use Rattle.crew_seating.specs.declared.ends.Ends.{Ends}
use Rattle.crew_workers.specs.Posts.{IsPosted, number_of}
use Rattle.crew_workers.specs.declared.channel.SeatChannel.{SeatChannel}
use Rattle.crew_workers.specs.declared.post.Post.{Post}
use Rattle.provider_trait.specs.Work.{Work}
use Rattle.seat_calls.specs.declared.done.Done.{Done}

-- the jobs that were sent to the seat of a post
abbrev pub sent_to : {P : Type 0} → Post P → List Work
sent_to post = jobs_in (view post.orders).sent

-- the jobs that were sent to the seat k
unfoldable pub sent_at : {P : Type 0} → List (Post P) → ℕ → List Work
sent_at [] k = []
sent_at (post ∷ rest) zero = sent_to post
sent_at (post ∷ rest) (suc k) = sent_at rest k

-- the driver can send to each seat and receive what they send
pub record IsRigged {P : Type 0} (made : P → P → List Done → Type 0) (ends : Ends) (posts : List (Post P))
    (pass : Pass Done Results) : Type 0 where
  pub len : length (vec_items ends.channels) ≡ length posts
  pub one : receives_on ends.from ≡ sends_on ends.to
  pub paired : (k : ℕ) (e : SeatChannel) → k < length posts → IsPaired (slice_index_or (vec_items ends.channels) k e)
  pub posted : (k : ℕ) (e : SeatChannel) (f : Post P) → k < length posts
      → IsPosted made (slice_index_or (vec_items ends.channels) k e) (sends_on ends.to) (slice_index_or posts k f)
      × (number_of (slice_index_or posts k f).place ≡ k)
  pub at_results : IsSeatAt (receives_on ends.from) pass
  pub receives : (view pass).receives ≡ true
  pub known : (view pass).made ≡ length posts
