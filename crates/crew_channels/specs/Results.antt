-- The rule of the shared channel: what a seat has sent is what was received of it, and then what the channel holds of
-- it.
use Rattle.std.specs.Prelude.{◌≡◌, ℕ, ◌<◌, ◌≤◌, Bool, true, List, [], ◌++◌}
use mathlib.Core.Option.{some}
use lib.ListN.{get_elem?}
use Rattle.crew_channels.specs.declared.results.Results.{Results}
use Rattle.seat_calls.specs.declared.done.Done.{Done}
use Rattle.seat_calls.specs.Dones.{of}

-- what the holder of a pass may do and has done: whether it receives, whether it sends, how many seats have a pass, its
-- seat's number, what its seat has sent, and what was received
abbrev pub results : Bool → Bool → ℕ → ℕ → List Done → List Done → Results
results receives sends made worker sent got =
    record { receives = receives; sends = sends; made = made; worker = worker; sent = sent; got = got }

-- a pass that receives is at this port, and knows how many seats have a pass and all that was received
abbrev pub FitsDriver : ℕ → ℕ → List Done → ℕ → Results → Type 0
FitsDriver receiver made got port v = v.receives ≡ true → (port ≡ receiver) × (v.made ≡ made) × (v.got ≡ got)

-- a pass that sends is at the port of its seat, which has sent this
abbrev pub FitsSeat : ℕ → (ℕ → ℕ) → (ℕ → List Done) → ℕ → Results → Type 0
FitsSeat made port_of sent port v =
    v.sends ≡ true → (v.worker < made) × (port_of v.worker ≡ port) × (v.sent ≡ sent v.worker)

-- the rule
abbrev pub AreBySeat : List Done → List Results → Type 0
AreBySeat items views = (receiver : ℕ) × (made : ℕ) × (port_of : ℕ → ℕ) × (sent : ℕ → List Done) × (got : List Done)
    × ((k : ℕ) → of k (got ++ items) ≡ sent k)
    × ((k : ℕ) → made ≤ k → sent k ≡ [])
    × ((port : ℕ) (v : Results) → get_elem? views port ≡ some v
    → FitsDriver receiver made got port v × FitsSeat made port_of sent port v)
