-- Whether the counts, conditions and names of a deployment have values, by which its tasks are known.
use Rattle.std.specs.Prelude.{◌≡◌, ◌||◌, ℕ, ◌<◌, not, Bool, true, false, List, length, Some}
use Rattle.arm_value.specs.Json.{Json}
use Rattle.reading.specs.Knowledge.{known, blanked}
use Rattle.deploy_cells.specs.Cells.{Cell, count, included, name, is_admitted}
use Rattle.deploy_cells.specs.Guarded.{Reads}
use Rattle.plan_cells.specs.Known.{Table}
use Rattle.plan_cells.specs.Meaning.{Deployment, raw}
use Rattle.plan_table.specs.Rows.{Status, Value, Row, row_at}

-- whether it is a count, the condition of an instance, or its name
abbrev pub is_asked : Cell → Bool
is_asked (count p r) = true
is_asked (included p s) = true
is_asked (name p s) = true
is_asked _ = false

-- each that the template has and that is there has a value
abbrev pub AreAnswered : Deployment → Table → Type 0
AreAnswered d q = (c : Cell) → is_asked c ≡ true → (r : Reads Json) → raw d c ≡ Some r
    → is_admitted (blanked q) c ≡ true → (v : Json) × (q c ≡ known v)

abbrev pub has_value : Status → Bool
has_value (Value v) = true
has_value _ = false

-- whether the row has a value, where it is of such a cell
abbrev pub is_answered : Row → Bool
is_answered r = not (is_asked r.cell) || has_value r.status

-- each row of such a cell has a value
abbrev pub AreRowsAnswered : List Row → Type 0
AreRowsAnswered rows = (j : ℕ) → j < length rows → is_answered (row_at rows j) ≡ true
