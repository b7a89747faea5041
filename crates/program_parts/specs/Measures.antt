-- What the template of a program takes of the limits, with the templates of its modules in it.
use Rattle.std.specs.Prelude.{◌≡◌, ℕ, zero, suc, List, [], ◌∷◌, Option, Some, None, slice_get, Result}
use Rattle.std.specs.Prelude.{IfOk, slice_index_or}
use Rattle.std.specs.declared.alloc.AllocError.{AllocError}
use Rattle.std.specs.declared.alloc.Global.{Global}
use Rattle.std.specs.declared.vec.Vec.{Vec}
use Rattle.bicep_meaning.specs.Instances.{module_of}
use Rattle.bicep_names.specs.declared.kind.Kind.{Kind}
use Rattle.bicep_symbols.specs.declared.entry.Entry.{Entry}
use Rattle.measured_trees.specs.Extremes.{Extremes, nothing, joined, enclosed}
use Rattle.measured_trees.specs.Limits.{IsBeyond}
use Rattle.measured_trees.specs.Measures.{IsOf}
use Rattle.measured_trees.specs.declared.measure.Measure.{Measure}
use Rattle.file_templates.specs.Parts.{extremes_of}
use Rattle.file_templates.specs.declared.file.FileParts.{FileParts}

-- the template of a module is inside four objects and arrays of the template that it is in
abbrev pub inside : Extremes → Extremes
inside x = enclosed (enclosed (enclosed (enclosed x)))

-- what the template of a module takes, by what those of files take
abbrev pub by_file : (ℕ → Extremes) → Option ℕ → Extremes
by_file x None = nothing
by_file x (Some j) = inside (x j)

-- what the modules among these symbols take
abbrev pub inner_of : (ℕ → Extremes) → List Entry → Extremes
inner_of x [] = nothing
inner_of x (e ∷ es) = joined (by_file x (module_of e.kind)) (inner_of x es)

-- the symbols of a file
abbrev pub entries_in : FileParts → List Entry
entries_in p = p.table.0.0.entries.items

-- what the template of a file takes, by what those of its modules take
abbrev pub taken_by : FileParts → (ℕ → Extremes) → Extremes
taken_by p x = joined (extremes_of p) (inner_of x (entries_in p))

abbrev pub taken : Option FileParts → (ℕ → Extremes) → Extremes
taken None x = nothing
taken (Some p) x = taken_by p x

-- what the template of the file of a number takes, with those of its modules, in which so many files are in one
-- another
abbrev pub whole : List FileParts → ℕ → ℕ → Extremes
whole ps zero k = nothing
whole ps (suc n) k = taken (slice_get ps k) (whole ps n)

-- what the template of the program takes: what is inside 31 files nests too deep
abbrev pub program_extremes : List FileParts → Extremes
program_extremes ps = whole ps 31 0

-- ---- measures

abbrev pub unmeasured : Measure
unmeasured = record { longest = 0; deepest = 0; depth = 0 }

-- what is measured of files, by their numbers
abbrev pub AreOf : (ℕ → Extremes) → List Measure → Type 0
AreOf x ms = (k : ℕ) → IsOf (x k) (slice_index_or ms k unmeasured)

abbrev pub IsMeasureAt : List Measure → ℕ → Measure → Type 0
IsMeasureAt ms k m = (x : ℕ → Extremes) → AreOf x ms → IsOf (x k) m

abbrev pub IsInside : Measure → Measure → Type 0
IsInside m n = (x : Extremes) → IsOf x m → IsOf (inside x) n

abbrev pub IsModuleMeasure : List Measure → Kind → Measure → Type 0
IsModuleMeasure ms kind m = (x : ℕ → Extremes) → AreOf x ms → IsOf (by_file x (module_of kind)) m

abbrev pub IsInnerMeasure : List Measure → List Entry → Measure → Type 0
IsInnerMeasure ms es m = (x : ℕ → Extremes) → AreOf x ms → IsOf (inner_of x es) m

-- the parts have what is measured of their file
abbrev pub IsMeasured : FileParts → Type 0
IsMeasured p = IsOf (extremes_of p) p.parts.measure

abbrev pub AreMeasured : List FileParts → Type 0
AreMeasured ps = (k : ℕ) (p : FileParts) → slice_get ps k ≡ Some p → IsMeasured p

abbrev pub IsPartMeasure : FileParts → List Measure → Measure → Type 0
IsPartMeasure p ms m = (x : ℕ → Extremes) → AreOf x ms → IsOf (taken_by p x) m

abbrev pub AreMoreMeasures : List FileParts → List Measure → Result (Vec Measure Global) AllocError → Type 0
AreMoreMeasures ps ms result =
    (x : ℕ → Extremes) → AreOf x ms → IfOk result (λ v. AreOf (λ k. taken (slice_get ps k) x) v.items)

abbrev pub AreAllMeasures : List FileParts → Vec Measure Global → Type 0
AreAllMeasures ps v = AreOf (whole ps 31) v.items

abbrev pub IsWholeMeasure : List FileParts → Measure → Type 0
IsWholeMeasure ps m = IsOf (program_extremes ps) m

-- the template of the program is beyond no limit
abbrev pub IsWholeWithin : List FileParts → Type 0
IsWholeWithin ps = IsBeyond 0 (program_extremes ps) None
