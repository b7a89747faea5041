-- The rule of a seat's channel: what was sent is what was received, and then what the channel holds.
use Rattle.std.specs.Prelude.{◌≡◌, ℕ, Bool, true, List, [], ◌∷◌, ◌++◌}
use mathlib.Core.Option.{some}
use lib.ListN.{get_elem?}
use Rattle.provider_trait.specs.Work.{Work}
use Rattle.crew_channels.specs.declared.order.Order.{Order}
use Rattle.crew_channels.specs.declared.order.Order.TheVariants.{Run, Stop}
use Rattle.crew_channels.specs.declared.orders.Orders.{Orders}

-- what the holder of a pass may do and has done: whether it sends, whether it receives, what it has sent and received
abbrev pub orders : Bool → Bool → List Order → List Order → Orders
orders sends receives sent got = record { sends = sends; receives = receives; sent = sent; got = got }

-- a pass that sends is at this port and has sent all that was sent; one that receives is at that port and has received
-- all that was received
abbrev pub FitsPort : ℕ → ℕ → List Order → List Order → ℕ → Orders → Type 0
FitsPort sender receiver sent got port v =
    (v.sends ≡ true → (port ≡ sender) × (v.sent ≡ sent)) × (v.receives ≡ true → (port ≡ receiver) × (v.got ≡ got))

-- the rule
abbrev pub AreInOrder : List Order → List Orders → Type 0
AreInOrder items views = (sender : ℕ) × (receiver : ℕ) × (sent : List Order) × (got : List Order)
    × (sent ≡ got ++ items)
    × ((port : ℕ) (v : Orders) → get_elem? views port ≡ some v → FitsPort sender receiver sent got port v)

-- the jobs of these orders, in order
abbrev pub jobs_in : List Order → List Work
jobs_in [] = []
jobs_in (Run job ∷ rest) = job ∷ jobs_in rest
jobs_in (Stop ∷ rest) = jobs_in rest
