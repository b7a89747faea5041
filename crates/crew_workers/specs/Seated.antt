-- A worker with what it knows of the channels.
use Rattle.std.specs.Prelude.{◌≡◌, true, false, List, []}
use Rattle.crossbeam_channel.specs.Claims.{view, IsSeatAt}
use Rattle.crew_channels.specs.Orders.{orders, jobs_in}
use Rattle.crew_channels.specs.Results.{results}
use Rattle.crew_channels.specs.Rings.{OrderRing, DoneRing}
use Rattle.crew_workers.specs.declared.worker.Worker.{Worker}
use Rattle.seat_calls.specs.Dones.{jobs_of}
use Rattle.seat_calls.specs.declared.done.Done.{Done}

-- a worker has received orders of this channel and has sent results to that one, and its provider has made the calls:
-- one for each job that it received, in order, and one result with its number for each
pub record IsSeated {P : Type 0} (made : P → P → List Done → Type 0) (from : OrderRing) (to : DoneRing)
    (worker : Worker P) : Type 0 where
  pub at_orders : IsSeatAt from worker.orders
  pub at_results : IsSeatAt to worker.results
  pub orders_role : view worker.orders ≡ orders false true [] (view worker.orders).got
  pub results_role : view worker.results ≡ results false true 0 worker.number (view worker.results).sent []
  pub calls : made worker.before.value worker.provider (view worker.results).sent
  pub jobs : jobs_of (view worker.results).sent ≡ jobs_in (view worker.orders).got

-- two workers are of one seat, which began with one provider
abbrev pub IsSameSeat : {P : Type 0} → Worker P → Worker P → Type 0
IsSameSeat old new = (new.number ≡ old.number) × (new.before.value ≡ old.before.value)
