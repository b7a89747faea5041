-- What a driver knows between the turns of its loop.
use Rattle.std.specs.Prelude.{◌≡◌, Bool, List, [], ◌++◌, Option, None, Some}
use Rattle.driver_loop.specs.Actions.{first_fault, AreTakes}
use Rattle.driver_loop.specs.Ends.{Blames, Drove}
use Rattle.driver_loop.specs.Moments.{Moment, Pages}
use Rattle.driver_loop.specs.Runs.{Ran, Wrote}
use Rattle.driver_loop.specs.declared.action.Action.{Action}
use Rattle.driver_loop.specs.declared.fault.DriveFault.{DriveFault}
use Rattle.driver_loop.specs.declared.fault.Ended.{Ended}

-- the fault is the first that these actions show, or one of memory; after the first fault nothing was begun
abbrev pub KnowsFault : Option DriveFault → List Action → Type 0
KnowsFault fault course = (a : List Action) × (b : List Action) × (course ≡ a ++ b) × (first_fault a ≡ None)
    × AreTakes b
    × (fault ≡ None → b ≡ []) × Blames fault course

-- these actions were done since the beginning, with this fault
abbrev pub GoesOn : Bool → Moment → Moment → Pages → Pages → Option DriveFault → Type 0
GoesOn tells m0 m p0 p fault =
    (course : List Action) × Ran m0 m course × Wrote tells p0 p course × KnowsFault fault course

-- the drive goes on, or has ended
abbrev pub Turned : Type 0 → Bool → Moment → Moment → Pages → Pages → Option DriveFault → Option Ended → Type 0
Turned end tells m0 m p0 p fault None = GoesOn tells m0 m p0 p fault
Turned end tells m0 m p0 p fault (Some ended) = Drove end tells m0 m p0 p ended

-- a turn takes a drive that goes on from one moment to the next
abbrev pub Turns : Type 0 → Bool → Moment → Moment → Pages → Pages → Option DriveFault → Option DriveFault
    → Option Ended
    → Type 0
Turns end tells m m' p p' fault fault' result = (m0 : Moment) (p0 : Pages) → GoesOn tells m0 m p0 p fault
    → Turned end tells m0 m' p0 p' fault' result
