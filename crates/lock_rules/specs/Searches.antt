-- Locks beside their places, and where a search for a place ends.
use Rattle.std.specs.Prelude.{◌≡◌, ◌<◌, ◌≤◌, ℕ, List, map, length, take, drop, Result, Ok, Err, slice_index_or}
use Rattle.std.specs.declared.cmp.Ordering.TheVariants.{Equal, Greater, Less}
use Rattle.std.specs.List.{AllByRecursion}
use Rattle.lock_rules.specs.Places.{place_cmp, place_of, AreInOrder}
use Rattle.lock_rules.specs.declared.lock.Lock.{Lock}
use Rattle.lock_rules.specs.declared.place.Place.{Place}

-- the place is above all of these
abbrev pub IsAbove : Place → List Place → Type 0
IsAbove place others = AllByRecursion (λ other. place_cmp place other ≡ Greater) others

-- the place is below the first of these, where there is one
abbrev pub IsBelowFirst : Place → List Place → Type 0
IsBelowFirst place others =
    (i : ℕ) (d : Place) → i < length others → i < 1 → place_cmp place (slice_index_or others i d) ≡ Less

-- the index of the place among others, or the index of the first that is above it
abbrev pub IsFound : Place → List Place → Result ℕ ℕ → Type 0
IsFound place others (Ok i) =
    (i < length others) × IsAbove place (take i others)
    × ((d : Place) → place_cmp place (slice_index_or others i d) ≡ Equal)
IsFound place others (Err i) =
    (i ≤ length others) × IsAbove place (take i others) × IsBelowFirst place (drop i others)

-- the places of the locks, which are in order
pub record AreKept (locks : List Lock) (places : List Place) : Type 0 where
  pub places_are : places ≡ map place_of locks
  pub in_order : AreInOrder locks
