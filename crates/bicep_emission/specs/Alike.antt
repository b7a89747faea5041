-- Readings of two worlds that have the same value, of which both or neither reads a marked cell.
use Rattle.std.specs.Prelude.{◌≡◌, ◌||◌, Bool, false, Option}
use Rattle.reading.specs.Reading.{Reading, done, ask}

-- a value or none, and whether a marked cell is read
abbrev pub Seen : Type 0 → Type 0
Seen A = Option A × Bool

-- where a marked cell may have been read before
abbrev pub after : {A : Type 0} → Bool → Seen A → Seen A
after b s = (s.0, s.1 || b)

-- what a reading has in a world, and whether it reads a marked cell there
unfoldable pub seen_in : {C J A : Type 0} → (C → Option J) → (C → Bool) → Reading C J A → Seen A
seen_in w m (done o) = (o, false)
seen_in w m (ask c k) = after (m c) (seen_in w m (k (w c)))

-- the same value or none, and both or neither read a marked cell; the cells of the readings may be of two kinds
abbrev pub Alike : {C D J K A : Type 0} → (C → Option J) → (C → Bool) → (D → Option K) → (D → Bool)
    → Reading C J A → Reading D K A → Type 0
Alike v n w m r s = seen_in v n r ≡ seen_in w m s
