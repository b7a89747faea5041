-- Objects whose members have fixed names.
use Rattle.std.specs.Prelude.{ℕ, chars, List, [], ◌∷◌, Option, Some, None, ◌≤◌}
use Rattle.arm_value.specs.Json.{Json, text, array, object, Member, row, pairs, put, nesting}

-- the name of a member, spelled in UTF-8, and its value; without one the member is left out
abbrev pub Slot : Type 0
Slot = List ℕ × Option Json

-- the members, with this one where it is there
unfoldable pub put_slot : List ℕ → Option Json → List Member → List Member
put_slot name None ms = ms
put_slot name (Some j) ms = put (chars name) j ms

-- the members, with each of these put among them in turn
abbrev pub put_slots : List Slot → List Member → List Member
put_slots [] ms = ms
put_slots (s ∷ ss) ms = put_slots ss (put_slot s.0 s.1 ms)

-- the object of these
abbrev pub an_object : List Slot → Json
an_object ss = object (pairs (put_slots ss []))

-- the text of a word, which is spelled in UTF-8
abbrev pub word : List ℕ → Json
word w = text (chars w)

-- an array or an object, which is left out where it is empty
abbrev pub array_unless_empty : List Json → Option Json
array_unless_empty [] = None
array_unless_empty (j ∷ js) = Some (array (row (j ∷ js)))

abbrev pub object_unless_empty : List Member → Option Json
object_unless_empty [] = None
object_unless_empty (m ∷ ms) = Some (object (pairs (m ∷ ms)))

-- a value that nests at most so deep, where it is there
abbrev pub NestsWithin : ℕ → Option Json → Type 0
NestsWithin n None = Unit {0}
NestsWithin n (Some j) = nesting j ≤ n

abbrev pub SlotsNest : ℕ → List Slot → Type 0
SlotsNest n [] = Unit {0}
SlotsNest n (s ∷ ss) = NestsWithin n s.1 × SlotsNest n ss
