-- Channels that are open, and seats at their channels.
use Rattle.std.specs.Prelude.{◌≡◌, ◌<◌, ℕ, true, false, List, [], length, slice_index_or}
use Rattle.std.specs.Prelude.{vec_items}
use Rattle.crossbeam_channel.specs.Claims.{Pass, view, IsSeatAt}
use Rattle.crossbeam_channel.specs.Ends.{sends_on, receives_on}
use Rattle.crew_channels.specs.Orders.{orders}
use Rattle.crew_channels.specs.Results.{results}
use Rattle.crew_channels.specs.Rings.{DoneRing}
use Rattle.crew_channels.specs.declared.results.Results.{Results}
use Rattle.crew_workers.specs.Posts.{IsStationed}
use Rattle.crew_workers.specs.declared.channel.SeatChannel.{SeatChannel}
use Rattle.crew_workers.specs.declared.post.Station.{Station}
use Rattle.seat_calls.specs.declared.done.Done.{Done}
use Rattle.seat_calls.specs.declared.seat.Seat.{Seat}
use Rattle.crew_seating.specs.declared.ends.Ends.{Ends}
use Rattle.crew_seating.specs.declared.ends.Opened.{Opened}
use Rattle.crew_seating.specs.declared.ends.SeatPasses.{SeatPasses}

-- both ends are of one channel
abbrev pub IsPaired : SeatChannel → Type 0
IsPaired channel = receives_on channel.receiver ≡ sends_on channel.sender

-- the passes of the seat k are fresh, and belong to its channel and to the shared one
pub record IsOpenSeat (to : DoneRing) (k : ℕ) (channel : SeatChannel) (passes : SeatPasses) : Type 0 where
  pub numbered : passes.number ≡ k
  pub paired : IsPaired channel
  pub at_driver : IsSeatAt (sends_on channel.sender) passes.driver
  pub new_driver : view passes.driver ≡ orders true false [] []
  pub at_orders : IsSeatAt (sends_on channel.sender) passes.orders
  pub new_orders : view passes.orders ≡ orders false true [] []
  pub at_results : IsSeatAt to passes.results
  pub new_results : view passes.results ≡ results false true 0 k [] []

-- so many seats have their channels and passes, in their order
pub record AreOpen (to : DoneRing) (seats : ℕ) (channels : List SeatChannel) (passes : List SeatPasses) : Type 0 where
  pub channels_len : length channels ≡ seats
  pub passes_len : length passes ≡ seats
  pub each : (k : ℕ) (e : SeatChannel) (p : SeatPasses) → k < seats
      → IsOpenSeat to k (slice_index_or channels k e) (slice_index_or passes k p)

-- the channels of so many seats are open
pub record IsOpen (seats : ℕ) (opened : Opened) : Type 0 where
  pub one : receives_on opened.ends.from ≡ sends_on opened.ends.to
  pub at_results : IsSeatAt (sends_on opened.ends.to) opened.results
  pub new_results : view opened.results ≡ results true false seats 0 [] []
  pub seats_open : AreOpen (sends_on opened.ends.to) seats (vec_items opened.ends.channels) opened.passes.items

-- a seat is at its channel with these passes
pub record IsStationOf {P : Type 0} (seat : Seat P) (passes : SeatPasses) (station : Station P) : Type 0 where
  pub sent : station.orders ≡ passes.driver
  pub numbered : station.worker.number ≡ passes.number
  pub first : station.worker.before.value ≡ seat.provider
  pub same : station.worker.provider ≡ seat.provider
  pub got : station.worker.orders ≡ passes.orders
  pub put : station.worker.results ≡ passes.results

-- a seat is the seat k, and nothing was sent to it
abbrev pub IsFresh : {P : Type 0} → ℕ → Station P → Type 0
IsFresh k station = (station.worker.number ≡ k) × ((view station.orders).sent ≡ [])

-- all seats are at their channels, and nothing was sent yet
pub record AreSetUp {P : Type 0} (made : P → P → List Done → Type 0) (ends : Ends) (pass : Pass Done Results)
    (stations : List (Station P)) : Type 0 where
  pub len : length (vec_items ends.channels) ≡ length stations
  pub one : receives_on ends.from ≡ sends_on ends.to
  pub paired : (k : ℕ) (e : SeatChannel) → k < length stations → IsPaired (slice_index_or (vec_items ends.channels) k e)
  pub stationed : (k : ℕ) (d : Station P) (e : SeatChannel) → k < length stations
      → IsStationed made (slice_index_or (vec_items ends.channels) k e) (sends_on ends.to) (slice_index_or stations k d)
      × IsFresh k (slice_index_or stations k d)
  pub at_results : IsSeatAt (sends_on ends.to) pass
  pub new_results : view pass ≡ results true false (length stations) 0 [] []
