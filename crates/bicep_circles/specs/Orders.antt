-- Orders of the symbols of a file in which each comes after those that its declaration mentions.
use Rattle.std.specs.Prelude.{◌≡◌, ◌<◌, ◌≤◌, ℕ, List, length, slice_index, slice_index_or, All}
use Rattle.depend_graph.specs.Shape.{times}
use Rattle.depend_graph.specs.Orders.{IsAmong}
use Rattle.depend_graph.specs.declared.order.Sorted.{Sorted}
use Rattle.depend_graph.specs.declared.order.Sorted.TheVariants as sorted
use Rattle.bicep_program.specs.Circles.{IsCircle, Links}

-- an order: every symbol once, each after the symbols that it leads to
pub record IsLinkOrder (lists : List (List ℕ)) (order : List ℕ) : Type 0 where
  pub counted : length order ≡ length lists
  pub nodes : (i : ℕ) → i < length order → slice_index_or order i 0 < length lists
  pub in_turn : (i m : ℕ) → i < length order → Links lists (slice_index_or order i 0) m → m < length lists
      → IsAmong order i m
  pub all : (u : ℕ) → u < length lists → IsAmong order (length order) u

-- an order, or a circle that begins with the symbol that is declared first and has no symbol twice
abbrev pub AreSorted : List (List ℕ) → Sorted → Type 0
AreSorted lists (sorted.Order xs) = IsLinkOrder lists xs.items
AreSorted lists (sorted.Circle xs) =
    IsCircle (Links lists) xs.items × All (λ v. slice_index xs.items 0 ≤ v) xs.items
    × ((u : ℕ) → times xs.items u ≤ 1)
