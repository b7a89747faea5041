-- What is known of cells at a moment: what follows from what is known outright, by what the cells are by others.
use Rattle.std.specs.Prelude.{◌≡◌, Option, Some, None}
use Rattle.template_parameters.specs.Json.{Json}
use Rattle.reading.specs.Knowledge.{Known, known, absent, missing, Told, value, no_value, waits, told}
use Rattle.deploy_cells.specs.Cells.{Cell, World}
use Rattle.deploy_cells.specs.Guarded.{Meaning}

-- how much may be known of a cell: a value or none outright, what it is by others, or nothing
pub data Access : Type 0 where
  outright : Option Json → Access
  by_others : Access
  hidden : Access

abbrev pub Moment : Type 0
Moment = Cell → Access

-- what is known of cells
abbrev pub Table : Type 0
Table = Cell → Known Json

abbrev pub entry_of : Option Json → Known Json
entry_of (Some v) = known v
entry_of None = absent

-- by what is told of a cell; one without a value has none
abbrev pub entry_told : Told Cell (Option Json) → Known Json
entry_told (value o) = entry_of o
entry_told no_value = absent
entry_told (waits d) = missing

-- what is known of a cell: outright, or by what is known of others
pub data IsKnown (m : Meaning) (n : Moment) : Cell → Option Json → Type 0 where
  is_outright : (c : Cell) (o : Option Json) → n c ≡ outright o → IsKnown m n c o
  is_told : (c : Cell) (o : Option Json) (p : Table) → n c ≡ by_others
      → ((d : Cell) (u : Option Json) → p d ≡ entry_of u → IsKnown m n d u)
      → entry_told (told p (m c)) ≡ entry_of o → IsKnown m n c o

abbrev pub entry_by : Access → Known Json → Known Json
entry_by (outright o) e = entry_of o
entry_by by_others e = e
entry_by hidden e = missing

-- the table of all that is known: each of its entries is known, and it has what is told by itself
pub record IsTable (m : Meaning) (n : Moment) (q : Table) : Type 0 where
  pub closed : (c : Cell) → q c ≡ entry_by (n c) (entry_told (told q (m c)))
  pub is_known : (c : Cell) (o : Option Json) → q c ≡ entry_of o → IsKnown m n c o

-- what is known outright is so
abbrev pub IsTrueIn : World → Moment → Type 0
IsTrueIn w n = (c : Cell) (o : Option Json) → n c ≡ outright o → w c ≡ o
