-- The graph of the files of a program.
use Rattle.std.specs.Prelude.{◌≡◌, ℕ, ◌+◌, ◌<◌, List, [], ◌∷◌, length, map, false, replicate, slice_index_or}
use Rattle.std.specs.List.{AllByRecursion}
use Rattle.bicep_program.specs.Circles.{IsCircle, Links}
use Rattle.bicep_program.specs.Program.{ProgramFile, names_of, links_of}
use Rattle.bicep_program.specs.declared.fault.LoadFault.{LoadFault}
use Rattle.bicep_program.specs.declared.fault.LoadFault.TheVariants as fault
use Rattle.depend_graph.specs.Shape.{Shape, with_edge}

-- the graph in which a node needs these others besides
abbrev pub with_needs : Shape → ℕ → List ℕ → Shape
with_needs g node [] = g
with_needs g node (need ∷ needs) = with_needs (with_edge g node need) node needs

-- the graph in which each node from one on needs those of the next list besides
abbrev pub with_links : Shape → ℕ → List (List ℕ) → Shape
with_links g node [] = g
with_links g node (needs ∷ rest) = with_links (with_needs g node needs) (node + 1) rest

-- a graph of so many nodes, of which none needs another and none is done
abbrev pub unlinked : ℕ → Shape
unlinked count = record { needs = replicate count []; done = replicate count false }

-- all numbers are below the count
abbrev pub AreWithin : ℕ → List (List ℕ) → Type 0
AreWithin count lists = AllByRecursion (λ numbers. AllByRecursion (λ k. k < count) numbers) lists

-- the name of the file of that number
abbrev pub name_at : List ProgramFile → ℕ → List ℕ
name_at files k = slice_index_or (names_of files) k []

-- the fault is a circle of these files
pub record IsCircleAmong (files : List ProgramFile) (names : List (List ℕ)) : Type 0 where
  pub numbers : List ℕ
  pub names_are : names ≡ map (name_at files) numbers
  pub within : AllByRecursion (λ k. k < length files) numbers
  pub circle : IsCircle (Links (links_of files)) numbers

abbrev pub IsCircleOf : List ProgramFile → LoadFault → Type 0
IsCircleOf files (fault.ModuleCycle names) = IsCircleAmong files names
IsCircleOf files fault.OutOfMemory = Unit {0}
IsCircleOf files other = ⊥
