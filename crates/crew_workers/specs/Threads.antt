-- The threads of seats, and what it takes to start them.
use Rattle.std.specs.Prelude.{◌≡◌, ◌<◌, ◌≤◌, ℕ, List, [], Option, None, Some, length, slice_index_or}
use Rattle.crossbeam_channel.specs.Ends.{sends_on, receives_on}
use Rattle.crew_channels.specs.Rings.{DoneRing}
use Rattle.crew_workers.specs.Posts.{AreStationed, ArePosted}
use Rattle.crew_workers.specs.declared.channel.SeatChannel.{SeatChannel}
use Rattle.crew_workers.specs.declared.post.Post.{Post}
use Rattle.crew_workers.specs.declared.post.Station.{Station}
use Rattle.crew_workers.specs.declared.promise.SeatPromise.{SeatPromise}
use Rattle.crew_workers.specs.declared.seat_thread.SeatThread.{SeatThread}
use Rattle.crew_workers.specs.declared.seat_thread.SeatThread.TheVariants.{Running, NotStarted}
use Rattle.seat_calls.specs.declared.done.Done.{Done}

-- two promises are of one worker at one place
abbrev pub IsSamePromise : {P : Type 0} → SeatPromise P → SeatPromise P → Type 0
IsSamePromise one other = (other.worker.value ≡ one.worker.value)
    × (receives_on other.from.value ≡ receives_on one.from.value) × (sends_on other.to.value ≡ sends_on one.to.value)

-- a seat that has promised is in a thread that has promised the same, and a seat that has not is in none
abbrev pub HasThread : {P : Type 0} → Option (SeatPromise P) → SeatThread P → Type 0
HasThread (Some promise) (Running handle) = IsSamePromise promise handle.promise
HasThread (Some promise) NotStarted = ⊥
HasThread None (Running handle) = ⊥
HasThread None NotStarted = Unit {0}

-- each seat has its thread, in their order
pub record HasThreads {P : Type 0} (marks : List (P × Option (SeatPromise P)))
    (threads : List (SeatThread P)) : Type 0 where
  pub len : length threads ≡ length marks
  pub each : (k : ℕ) (m : P × Option (SeatPromise P)) (t : SeatThread P) → k < length marks
      → HasThread (slice_index_or marks k m).1 (slice_index_or threads k t)

-- so much room is empty, and is enough for so many
abbrev pub IsRoom : ℕ → ℕ → ℕ → Type 0
IsRoom used room wanted = (used ≡ 0) × (wanted ≤ room)

module _ {P : Type 0} (made : P → P → List Done → Type 0) where
  -- all seats can be started, there is room for them, and this may be done with them however they were started
  pub record MayRun (channels : List SeatChannel) (to : DoneRing) (stations : List (Station P))
      (posts threads back : ℕ → Type 0) (none : List (SeatThread P)) (Can : List (Post P) → Type 0) : Type 0 where
    pub len : length stations ≡ length channels
    pub posts_wide : posts (length stations)
    pub threads_wide : threads (length stations)
    pub threads_none : none ≡ []
    pub back_wide : back (length stations)
    pub ready : AreStationed made channels to stations
    pub can : (all : List (Post P)) → ArePosted made channels to stations all → Can all
