-- What a driver knows of its seats.
use Rattle.std.specs.Prelude.{◌≡◌, ◌<◌, ℕ, Bool, true, List, [], ◌∷◌, ◌++◌, Option, None, Some, length, slice_index_or}
use Rattle.crossbeam_channel.specs.Claims.{view, IsSeatAt}
use Rattle.crossbeam_channel.specs.Ends.{sends_on, receives_on}
use Rattle.crew_channels.specs.Orders.{jobs_in}
use Rattle.crew_channels.specs.Rings.{OrderRing, DoneRing}
use Rattle.crew_channels.specs.declared.order.Order.{Order}
use Rattle.crew_channels.specs.declared.order.Order.TheVariants.{Stop}
use Rattle.crew_workers.specs.Received.{HasReceived, HasStopped}
use Rattle.crew_workers.specs.Seated.{IsSeated, IsSameSeat}
use Rattle.crew_workers.specs.declared.channel.SeatChannel.{SeatChannel}
use Rattle.crew_workers.specs.declared.post.Place.{Place}
use Rattle.crew_workers.specs.declared.post.Place.TheVariants.{Away, Here}
use Rattle.crew_workers.specs.declared.post.Post.{Post}
use Rattle.crew_workers.specs.declared.post.Station.{Station}
use Rattle.crew_workers.specs.declared.promise.SeatPromise.{SeatPromise}
use Rattle.crew_workers.specs.declared.worker.Worker.{Worker}
use Rattle.seat_calls.specs.declared.done.Done.{Done}

-- the number of the seat
abbrev pub number_of : {P : Type 0} → Place P → ℕ
number_of (Away promise) = promise.worker.value.number
number_of (Here worker) = worker.number

-- the provider of the seat before its first call
abbrev pub before_of : {P : Type 0} → Place P → P
before_of (Away promise) = promise.worker.value.before.value
before_of (Here worker) = worker.before.value

-- what the thread of the seat has promised, where there is one
abbrev pub promise_of : {P : Type 0} → Place P → Option (SeatPromise P)
promise_of (Away promise) = Some promise
promise_of (Here worker) = None

-- what was sent to a seat, with Stop at its end where the seat is in a thread
abbrev pub sent_last : {P : Type 0} → Place P → List Order → List Order
sent_last (Away promise) sent = sent ++ Stop ∷ []
sent_last (Here worker) sent = sent

-- what was sent to a seat that was started: Stop where it is with the driver, and nothing to one in a thread
abbrev pub sent_first : {P : Type 0} → Place P → List Order → List Order
sent_first (Away promise) sent = sent
sent_first (Here worker) sent = sent ++ Stop ∷ []

-- a worker that is with the driver has received one order more
abbrev pub HasObeyed : {P : Type 0} → Place P → Place P → Type 0
HasObeyed (Away promise) new = Unit {0}
HasObeyed (Here old) (Away promise) = ⊥
HasObeyed (Here old) (Here new) = (job : Bool) × HasReceived old new job

-- Stop was sent to a seat in a thread, and nothing after it
abbrev pub IsDismissed : {P : Type 0} → Place P → List Order → Type 0
IsDismissed (Away promise) sent = (before : List Order) × (sent ≡ before ++ Stop ∷ [])
IsDismissed (Here worker) sent = Unit {0}

-- Stop was sent to each seat in a thread, and nothing after it
pub record AreDismissed {P : Type 0} (posts : List (Post P)) : Type 0 where
  pub each : (k : ℕ) (d : Post P) → k < length posts
      → IsDismissed (slice_index_or posts k d).place (view (slice_index_or posts k d).orders).sent

-- two places are of one seat, which began with one provider and is in the same thread or in none
abbrev pub IsSamePlace : {P : Type 0} → Place P → Place P → Type 0
IsSamePlace old new = (number_of new ≡ number_of old) × (before_of new ≡ before_of old)
    × (promise_of new ≡ promise_of old)

-- what stays as it is of each seat while it is at work
unfoldable pub marks : {P : Type 0} → List (Post P) → List (P × Option (SeatPromise P))
marks [] = []
marks (post ∷ rest) = (before_of post.place, promise_of post.place) ∷ marks rest

-- a seat was started so: the same jobs were sent to it, and it is of the same number and provider
abbrev pub IsStartOf : {P : Type 0} → Station P → Post P → Type 0
IsStartOf station post = (jobs_in (view post.orders).sent ≡ jobs_in (view station.orders).sent)
    × (number_of post.place ≡ station.worker.number) × (before_of post.place ≡ station.worker.before.value)

module _ {P : Type 0} (made : P → P → List Done → Type 0) where
  -- a worker in a thread has promised to come back seated at these channels, and one that is with the driver is so
  abbrev pub IsPlaced : OrderRing → DoneRing → Place P → Type 0
  IsPlaced from to (Away promise) = (receives_on promise.from.value ≡ from) × (sends_on promise.to.value ≡ to)
  IsPlaced from to (Here worker) = IsSeated made from to worker

  -- the driver sends on this channel to the seat of the post
  pub record IsPosted (channel : SeatChannel) (to : DoneRing) (post : Post P) : Type 0 where
    pub at_orders : IsSeatAt (sends_on channel.sender) post.orders
    pub sends : (view post.orders).sends ≡ true
    pub placed : IsPlaced (receives_on channel.receiver) to post.place

  -- the same of a seat that is not in a thread
  pub record IsStationed (channel : SeatChannel) (to : DoneRing) (station : Station P) : Type 0 where
    pub at_orders : IsSeatAt (sends_on channel.sender) station.orders
    pub sends : (view station.orders).sends ≡ true
    pub seated : IsSeated made (receives_on channel.receiver) to station.worker

  -- all seats can be started, in their order
  pub record AreStationed (channels : List SeatChannel) (to : DoneRing) (stations : List (Station P)) : Type 0 where
    pub each : (k : ℕ) (d : Station P) (e : SeatChannel) → k < length stations
        → IsStationed (slice_index_or channels k e) to (slice_index_or stations k d)

  -- all seats were started, in their order
  pub record ArePosted (channels : List SeatChannel) (to : DoneRing) (stations : List (Station P))
      (posts : List (Post P)) : Type 0 where
    pub len : length posts ≡ length stations
    pub each : (k : ℕ) (d : Station P) (e : SeatChannel) (f : Post P) → k < length stations
        → IsPosted (slice_index_or channels k e) to (slice_index_or posts k f)
        × IsStartOf (slice_index_or stations k d) (slice_index_or posts k f)

  -- a worker that was in a thread has kept its promise, and one that was with the driver is that one
  abbrev pub GaveWorker : Place P → Worker P → Type 0
  GaveWorker (Away promise) worker = IsSeated made (receives_on promise.from.value) (sends_on promise.to.value) worker
      × IsSameSeat promise.worker.value worker × HasStopped promise.worker.value worker
  GaveWorker (Here there) worker = worker ≡ there

  -- a seat has come back
  abbrev pub Gave : Post P → Station P → Type 0
  Gave post station = (station.orders ≡ post.orders) × GaveWorker post.place station.worker

  -- all seats have come back, in their order
  pub record HaveGiven (posts : List (Post P)) (stations : List (Station P)) : Type 0 where
    pub len : length stations ≡ length posts
    pub each : (k : ℕ) (d : Station P) (f : Post P) → k < length posts
        → Gave (slice_index_or posts k f) (slice_index_or stations k d)
