-- What a cell is by other cells, where it is there; and worlds in which each cell is what it is by others.
use Rattle.std.specs.Prelude.{◌≡◌, Bool, true, false, Option, Some, None}
use Rattle.arm_value.specs.Json.{Json}
use Rattle.reading.specs.Reading.{Reading, ask, pure, continued}
use Rattle.reading.specs.World.{value_in}
use Rattle.reading.specs.Knowledge.{Known, Told, value, by_entry}
use Rattle.deploy_cells.specs.Cells.{Cell, World, parent, admits}

-- what reads cells, one after another, and then has a value or none
abbrev pub Reads : Type 0 → Type 0
Reads A = Reading Cell Json A

-- what each cell is, by the cells that are read for it: a value, or that it is not there. Where the reading has no
-- value, no world has the cell
abbrev pub Meaning : Type 0
Meaning = Cell → Reads (Option Json)

abbrev pub there : Reads Json → Reads (Option Json)
there r = continued r (λ v. pure (Some v))

abbrev pub not_there : Reads (Option Json)
not_there = pure None

abbrev pub there_if : Option (Reads Json) → Reads (Option Json)
there_if None = not_there
there_if (Some r) = there r

-- what the cell has
abbrev pub itself : Cell → Reads (Option Json)
itself c = ask c (λ v. pure v)

abbrev pub where_admitted : Bool → Reads (Option Json) → Reads (Option Json)
where_admitted true r = r
where_admitted false r = not_there

abbrev pub guarded_by : Cell → Option Cell → Reads (Option Json) → Reads (Option Json)
guarded_by c None r = r
guarded_by c (Some d) r = ask d (λ v. where_admitted (admits c v) r)

-- what the cell is where its parent admits it; elsewhere it is not there
unfoldable pub guarded : Cell → Reads (Option Json) → Reads (Option Json)
guarded c r = guarded_by c (parent c) r

-- each cell has what its meaning has there
abbrev pub IsWorld : Meaning → World → Type 0
IsWorld m w = (c : Cell) → value_in w (m c) ≡ Some (w c)

-- what is told where the parent admits the cell, or that it is not there
abbrev pub told_where : Bool → Told Cell (Option Json) → Told Cell (Option Json)
told_where true t = t
told_where false t = value None

-- what is told of a guarded cell, by what is known of its parent
abbrev pub told_by : (Cell → Known Json) → Cell → Option Cell → Told Cell (Option Json) → Told Cell (Option Json)
told_by p c None t = t
told_by p c (Some d) t = by_entry d (λ v. told_where (admits c v) t) (p d)
