-- A reading with readings of other cells, which have values of another kind, in the places of its cells.
use Rattle.std.specs.Prelude.{List, [], ◌∷◌, ◌++◌, Option}
use Rattle.reading.specs.Reading.{Reading, done, ask, continued}
use Rattle.reading.specs.World.{reads_in}

unfoldable pub followed : {C D J K A : Type 0} → (C → Reading D K (Option J)) → Reading C J A → Reading D K A
followed h (done o) = done o
followed h (ask c k) = continued (h c) (λ v. followed h (k v))

-- what the readings in the places of these cells read, one after another
abbrev pub followed_reads : {C D J K : Type 0} → (D → Option K) → (C → Reading D K (Option J)) → List C → List D
followed_reads w h [] = []
followed_reads w h (c ∷ cs) = reads_in w (h c) ++ followed_reads w h cs
