-- Seats that are started and come back.
use Rattle.std.proofs.Common.{◌≡◌, refl, sym, ap, ◌∙◌, subst, List}
use Rattle.crossbeam_channel.specs.Claims.{Pass, view, IsSeatAt}
use Rattle.crossbeam_channel.specs.Ends.{sends_on, receives_on}
use Rattle.crew_channels.specs.Rings.{OrderRing, DoneRing}
use Rattle.crew_channels.specs.declared.order.Order.{Order}
use Rattle.crew_channels.specs.declared.orders.Orders.{Orders}
use Rattle.crew_workers.specs.Posts.{IsDismissed, IsPlaced, IsPosted, IsStationed, GaveWorker, Gave, number_of}
use Rattle.crew_workers.specs.Posts.{before_of, sent_last}
use Rattle.crew_workers.specs.Seated.{IsSeated}
use Rattle.crew_workers.specs.declared.channel.SeatChannel.{SeatChannel}
use Rattle.crew_workers.specs.declared.post.Place.{Place}
use Rattle.crew_workers.specs.declared.post.Place.TheVariants.{Away, Here}
use Rattle.crew_workers.specs.declared.post.Post.{Post}
use Rattle.crew_workers.specs.declared.post.Station.{Station}
use Rattle.crew_workers.specs.declared.worker.Worker.{Worker}
use Rattle.seat_calls.specs.declared.done.Done.{Done}

module _ {P : Type 0} where
  is_last : (place : Place P) (sent : List Order) → IsDismissed place (sent_last place sent)
  is_last (Away h) sent = (sent, refl)
  is_last (Here there) sent = tt

  -- a seat to which Stop was sent is dismissed
  pub dismissed : (old new : Post P) → new.place ≡ old.place
      → (view new.orders).sent ≡ sent_last old.place (view old.orders).sent
      → IsDismissed new.place (view new.orders).sent
  dismissed old new same last =
      subst (λ (y : Place P × List Order). IsDismissed y.0 y.1) (λ i. (sym same i, sym last i))
      (is_last old.place (view old.orders).sent)

module _ {P : Type 0} (made : P → P → List Done → Type 0) where
  seated_back : (from : OrderRing) (to : DoneRing) (place : Place P) (worker : Worker P) → IsPlaced made from to place
      → GaveWorker made place worker → IsSeated made from to worker
  seated_back from to (Away h) worker p g =
      subst (λ (y : OrderRing × DoneRing). IsSeated made y.0 y.1 worker) (λ i. (p.0 i, p.1 i)) g.0
  seated_back from to (Here there) worker p g = subst (λ x. IsSeated made from to x) (sym g) p

  -- a seat that has come back is of the same number and provider
  pub same_back : (place : Place P) (worker : Worker P) → GaveWorker made place worker
      → (worker.number ≡ number_of place) × (worker.before.value ≡ before_of place)
  same_back (Away h) worker g = g.1
  same_back (Here there) worker g = (ap (λ (x : Worker P). x.number) g, ap (λ (x : Worker P). x.before.value) g)

  -- a seat that has come back can be started again
  pub stationed_back : (channel : SeatChannel) (to : DoneRing) (post : Post P) (station : Station P)
      → IsPosted made channel to post → Gave made post station → IsStationed made channel to station
  stationed_back channel to post station p g = record {
    at_orders = subst (λ (x : Pass Order Orders). IsSeatAt (sends_on channel.sender) x) (sym g.0) p.at_orders;
    sends = ap (λ (x : Pass Order Orders). (view x).sends) g.0 ∙ p.sends;
    seated = seated_back (receives_on channel.receiver) to post.place station.worker p.placed g.1;
  }
