-- Orders in which the nodes of a graph may be done.
use Rattle.std.specs.Prelude.{◌≡◌, ◌<◌, ◌≤◌, ◌⊎◌, ◌+◌, ◌∷◌, ℕ, Bool, true, List, [], length, slice_index, slice_index_or, All}
use Rattle.std.specs.Prelude.{if◌then◌else◌}
use Rattle.depend_graph.specs.Shape.{Shape, is_done, Needs, IsCircle, times}
use Rattle.depend_graph.specs.declared.order.Sorted.{Sorted}
use Rattle.depend_graph.specs.declared.order.Sorted.TheVariants as sorted

-- the node is one of the first of these
abbrev pub IsAmong : List ℕ → ℕ → ℕ → Type 0
IsAmong order count node = (j : ℕ) × (j < count) × (slice_index_or order j 0 ≡ node)

-- all that one of these needs is done, or comes before it
abbrev pub AreInTurn : Shape → List ℕ → Type 0
AreInTurn g order = (i need : ℕ) → i < length order → Needs g (slice_index_or order i 0) need
    → (is_done g need ≡ true) ⊎ IsAmong order i need

abbrev pub AreNodes : Shape → List ℕ → Type 0
AreNodes g order = (i : ℕ) → i < length order → slice_index_or order i 0 < length g.needs

-- how many are marked
abbrev pub marked : List Bool → ℕ
marked [] = 0
marked (b ∷ bs) = (if b then 1 else 0) + marked bs

-- an order: every undone node, each after the undone nodes that it needs; as many as are undone, so each of them once
-- and no other
pub record IsOrder (g : Shape) (order : List ℕ) : Type 0 where
  pub counted : length order + marked g.done ≡ length g.needs
  pub nodes : AreNodes g order
  pub in_turn : AreInTurn g order
  pub all : (u : ℕ) → u < length g.needs → (is_done g u ≡ true) ⊎ IsAmong order (length order) u

-- an order, or a circle that begins with its least node and has no node twice
abbrev pub IsSorted : Shape → Sorted → Type 0
IsSorted g (sorted.Order xs) = IsOrder g xs.items
IsSorted g (sorted.Circle xs) =
    IsCircle g xs.items × All (λ v. slice_index xs.items 0 ≤ v) xs.items × ((u : ℕ) → times xs.items u ≤ 1)
