-- The notes that a book in memory keeps.
use Rattle.std.specs.Prelude.{ℕ, ◌+◌, List, [], ◌∷◌, take, drop}
use Rattle.dealer_trait.specs.declared.note.Note.{Note}
use Rattle.driver_fakes.specs.declared.notes.Entry.{Entry}

-- a note of these parts
abbrev pub note : ℕ → List ℕ → List ℕ → Note
note kind first second = record { kind = kind; first = first; second = second }

-- how many bytes the parts of these notes have
abbrev pub size_of : List Entry → ℕ
size_of [] = 0
size_of (e ∷ es) = e.first + e.second + size_of es

-- the notes whose parts are these bytes, one part after another
abbrev pub notes_in : List Entry → List ℕ → List Note
notes_in [] bytes = []
notes_in (e ∷ es) bytes =
    note e.kind (take e.first bytes) (take e.second (drop e.first bytes))
    ∷ notes_in es (drop e.second (drop e.first bytes))
