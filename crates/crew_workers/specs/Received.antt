-- What a worker has received.
use Rattle.std.specs.Prelude.{◌≡◌, Bool, true, false, List, [], ◌∷◌, ◌++◌}
use Rattle.crossbeam_channel.specs.Claims.{view}
use Rattle.crew_channels.specs.declared.order.Order.{Order}
use Rattle.crew_channels.specs.declared.order.Order.TheVariants.{Run, Stop}
use Rattle.crew_workers.specs.declared.worker.Worker.{Worker}
use Rattle.provider_trait.specs.Work.{Work}

-- whether an order is a job
abbrev pub is_job : Order → Bool
is_job (Run job) = true
is_job Stop = false

-- the orders to do these jobs
unfoldable pub runs : List Work → List Order
runs [] = []
runs (job ∷ rest) = Run job ∷ runs rest

-- what a worker has received, oldest first
abbrev pub received : {P : Type 0} → Worker P → List Order
received worker = (view worker.orders).got

-- a worker has received one order more, which is a job or not
abbrev pub HasReceived : {P : Type 0} → Worker P → Worker P → Bool → Type 0
HasReceived old new job = (order : Order) × (received new ≡ received old ++ order ∷ []) × (job ≡ is_job order)

-- a worker has received further jobs, and then Stop
abbrev pub HasStopped : {P : Type 0} → Worker P → Worker P → Type 0
HasStopped old new = (jobs : List Work) × (received new ≡ received old ++ (runs jobs ++ Stop ∷ []))
