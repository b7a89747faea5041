-- Lists of numbers without those that are too large. A number that is no symbol's leads nowhere, so circles stay.
use Rattle.std.specs.Prelude.{ℕ, List, length, map, filter, nat_lt}

-- those of the numbers that are below the count
abbrev pub below : ℕ → List ℕ → List ℕ
below count ms = filter (λ m. nat_lt m count) ms

-- those that are below the count of the lists
abbrev pub all_below : List (List ℕ) → List (List ℕ)
all_below lists = map (below (length lists)) lists
