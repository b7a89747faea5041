-- What is known of a cell by what is told of the reading in its place, and what a reading of such cells gives.
use Rattle.std.specs.Prelude.{◌≡◌, Option, Some, None}
use Rattle.reading.specs.Knowledge.{Known, known, absent, missing, Told, value, no_value, waits}

-- where the reading has no value, what follows it has none, so nothing is known of the cell
abbrev pub known_of : {D J : Type 0} → Told D (Option J) → Known J
known_of (value (Some x)) = known x
known_of (value None) = absent
known_of no_value = missing
known_of (waits d) = missing

-- what a reading gives that stops at such a cell
abbrev pub stop_of : {D J A : Type 0} → Told D (Option J) → Told D A
stop_of (value o) = no_value
stop_of no_value = no_value
stop_of (waits d) = waits d

-- the result is the same, and in place of a cell that is waited for it is what stops its reading
abbrev pub IsResolved : {C D J A : Type 0} → (C → Told D (Option J)) → Told C A → Told D A → Type 0
IsResolved t (value x) u = u ≡ value x
IsResolved t no_value u = u ≡ no_value
IsResolved t (waits c) u = u ≡ stop_of (t c)
