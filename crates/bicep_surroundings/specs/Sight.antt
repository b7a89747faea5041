-- What surrounds an expression, and what is returned for it.
use Rattle.std.specs.Prelude.{◌≡◌, ℕ, List, [], ◌∷◌, Option, option_to_list, Result}
use Rattle.std.specs.declared.vec.Vec.{Vec}
use Rattle.std.specs.declared.alloc.Global.{Global}
use Rattle.arm_value.specs.Json.{Json}
use Rattle.arm_value.specs.View.{json}
use Rattle.arm_value.specs.declared.value.Value.{Value}
use Rattle.reading.specs.Knowledge.{Known, told, value}
use Rattle.deploy_cells.specs.Cells.{Cell}
use Rattle.deploy_cells.specs.Guarded.{Reads}
use Rattle.bicep_resolved.specs.declared.leaf.Target.{Target}
use Rattle.bicep_resolved.specs.Source.{SourceTree, ReachTree}
use Rattle.bicep_resolved.specs.Target.{number_of}
use Rattle.bicep_meaning.specs.Rows.{all}
use Rattle.bicep_meaning.specs.Around.{Here, Frame, Around, runs}
use Rattle.bicep_meaning.specs.Meaning as meaning
use Rattle.bicep_outcomes.specs.declared.loops.Turn.{Turn}
use Rattle.bicep_outcomes.specs.declared.stop.Stop.{Stop}
use Rattle.bicep_outcomes.specs.Outcomes.{Gives, all_json}

-- what is known of each cell, and the number by which each is told; the instance of the file; and what the
-- declarations of the file mean
pub record Sight : Type 0 where
  pub known : Cell → Known Json
  pub cell : ℕ → Cell
  pub here : Here
  pub around : Around

-- the item and the index of a run are what is told of those of a frame
abbrev pub IsSeen : Sight → Turn → Frame → Type 0
IsSeen s t f = Gives s.cell json t.item (told s.known f.item) × Gives s.cell json t.index (told s.known f.index)

abbrev pub AreSeen : Sight → List Turn → List Frame → Type 0
AreSeen s [] [] = Unit {0}
AreSeen s (t ∷ ts) (f ∷ fs) = IsSeen s t f × AreSeen s ts fs
AreSeen s _ _ = ⊥

-- what is returned, seen by a view, is what is told of the reading inside loops of which the runs are these
abbrev pub Answers : {X A : Type 0} → Sight → List Turn → (X → A) → Result X Stop → (List Frame → Reads A) → Type 0
Answers s ts view r q = (fs : List Frame) → AreSeen s ts fs → Gives s.cell view r (told s.known (q fs))

-- the output of a number of a module
abbrev pub module_output : Sight → Target → ℕ → List Frame → Reads Json
module_output s x k fs =
    meaning.output_value s.here (meaning.output_name s.here x k) (s.around.name (number_of x) fs)

-- the run is that of the loop around a declaration, where one of its elements is reached
abbrev pub IsInside : Sight → List Turn → ReachTree → Option Turn → Type 0
IsInside s ts r t = (fs : List Frame) → AreSeen s ts fs
    → AreSeen s (option_to_list t) (meaning.frames s.here s.around r fs)

-- the values of a body in so many runs of a loop over a reading of which this is the value
abbrev pub AreRuns : Sight → List Turn → Result (Vec Value Global) Stop → SourceTree → Json → ℕ → Type 0
AreRuns s ts r body j n = (fs : List Frame) (xs : Reads Json) → AreSeen s ts fs → told s.known xs ≡ value j
    → Gives s.cell all_json r (told s.known (all (runs (λ f. meaning.value s.here s.around body (f ∷ fs)) xs 0 n)))
