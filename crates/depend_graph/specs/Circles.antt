-- What a search for circles goes by.
use Rattle.std.specs.Prelude.{◌≡◌, ◌≢◌, ◌<◌, ◌≤◌, ◌+◌, ◌==◌, ◌&&◌, ◌⊎◌, ℕ, Bool, true, false, not, List, [], ◌∷◌}
use Rattle.std.specs.Prelude.{length, slice_index_or, if◌then◌else◌}
use Rattle.depend_graph.specs.Shape.{Shape, times, undone, is_done, IsCircle, Chain}
use Rattle.depend_graph.specs.Orders.{IsAmong, AreInTurn, AreNodes, marked}

-- whether a node is undone and has no undone need
abbrev pub can_start : List Bool → List ℕ → ℕ → Bool
can_start done unmet node = not (slice_index_or done node false) && (slice_index_or unmet node 0 == 0)

-- each undone node has an undone need
abbrev pub IsBlocked : List (List ℕ) → List Bool → Type 0
IsBlocked needs done = (u : ℕ) → u < length needs → slice_index_or done u false ≡ false
    → undone done (slice_index_or needs u []) ≢ []

-- each circle of the graph is one still where these are done
abbrev pub KeepsCircles : Shape → List Bool → Type 0
KeepsCircles g done = (xs : List ℕ) → IsCircle g xs → IsCircle (record { needs = g.needs; done = done }) xs

-- how much is left to do: the undone nodes, and all that need them
abbrev pub work : List Bool → List (List ℕ) → ℕ
work [] ds = 0
work (b ∷ bs) [] = 0
work (true ∷ bs) (d ∷ ds) = work bs ds
work (false ∷ bs) (d ∷ ds) = 1 + length d + work bs ds

-- how far a search has come that marks nodes as done one after another, with those that may be next
pub record HasCome (g : Shape) (done : List Bool) (unmet ready : List ℕ) : Type 0 where
  pub done_size : length done ≡ length g.needs
  pub unmet_size : length unmet ≡ length g.needs
  pub counted : (u : ℕ) → slice_index_or unmet u 0 ≡ length (undone done (slice_index_or g.needs u []))
  pub circles : KeepsCircles g done
  pub later : (u : ℕ) → is_done g u ≡ true → slice_index_or done u false ≡ true
  -- what may be marked next is listed, and all that is listed has no undone need
  pub listed : (u : ℕ) → u < length g.needs → can_start done unmet u ≡ true → 1 ≤ times ready u
  pub startable : (u : ℕ) → 1 ≤ times ready u → (u < length g.needs) × (slice_index_or unmet u 0 ≡ 0)

-- a path: each node on it is undone and needs the next, and the last needs the node that comes next
abbrev pub Leads : Shape → List ℕ → ℕ → Type 0
Leads g [] node = Unit {0}
Leads g (x ∷ xs) node = Chain g (x ∷ xs) node

-- these were marked as done one after another, each once all that it needs was done
pub record InOrder (g : Shape) (done : List Bool) (order : List ℕ) : Type 0 where
  pub in_turn : AreInTurn g order
  pub among : (u : ℕ) → slice_index_or done u false ≡ true → (is_done g u ≡ true) ⊎ IsAmong order (length order) u
  pub counted : length order + marked g.done ≡ marked done
  pub nodes : AreNodes g order
