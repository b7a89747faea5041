-- The rows that keep what is held.
use Rattle.std.specs.Prelude.{◌≡◌, List, ℕ, map}
use Rattle.arm_ids.specs.Held.{HeldResource, IsInOrder, HaveKeys, held_by}
use Rattle.arm_ids.specs.Entry.{as_held}
use Rattle.arm_ids.specs.declared.row.Row.{Row}

-- the resource of a row
abbrev pub row_held : Row → HeldResource
row_held row = as_held row.entry

-- the folded id that a row keeps
abbrev pub order_of : Row → List ℕ
order_of row = row.order

-- each row is ordered by its entry's folded id
abbrev pub AreOrdered : List Row → Type 0
AreOrdered rows = map order_of rows ≡ map held_by (map row_held rows)

-- what holds of the rows of every value
pub record AreRows (rows : List Row) : Type 0 where
  pub ordered : AreOrdered rows
  pub in_order : IsInOrder (map row_held rows)
  pub named : HaveKeys (map row_held rows)
