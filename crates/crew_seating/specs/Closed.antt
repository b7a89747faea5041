-- A seat that has come back.
use Rattle.std.specs.Prelude.{◌≡◌, ℕ, true, List, [], ◌++◌}
use Rattle.crossbeam_channel.specs.Claims.{Pass, view, IsSeatAt}
use Rattle.crew_channels.specs.Orders.{jobs_in}
use Rattle.crew_channels.specs.Rings.{DoneRing}
use Rattle.crew_channels.specs.declared.results.Results.{Results}
use Rattle.crew_workers.specs.declared.post.Station.{Station}
use Rattle.provider_trait.specs.Work.{Work}
use Rattle.seat_calls.specs.Dones.{of, jobs_of}
use Rattle.seat_calls.specs.declared.done.Done.{Done}

-- the driver's pass of the shared channel
abbrev pub IsDriver : DoneRing → Pass Done Results → Type 0
IsDriver to pass = IsSeatAt to pass × ((view pass).receives ≡ true)

-- what the seat k has put was received but for some that is left, and is of the first jobs that it was sent
abbrev pub Told : List Done → List Work → ℕ → List Done → Type 0
Told got sent k put = (left : List Done) × (rest : List Work) × (of k (got ++ left) ≡ put)
    × (sent ≡ jobs_of put ++ rest)

-- the same of a seat that has come back
abbrev pub HasLeft : {P : Type 0} → List Done → Station P → Type 0
HasLeft got station =
    Told got (jobs_in (view station.orders).sent) station.worker.number (view station.worker.results).sent

-- nothing was received of the seat k
abbrev pub HasNone : List Done → ℕ → Type 0
HasNone got k = of k got ≡ []
