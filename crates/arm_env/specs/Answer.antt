-- What is answered by what is known.
use Rattle.std.specs.Prelude.{◌≡◌, ◌++◌, List, [], ◌∷◌, Bool, true, false, Option, Some, None, option_map, Result}
use Rattle.std.specs.Prelude.{Ok, Err}
use Rattle.arm_value.specs.Json.{Json}
use Rattle.reading.specs.Reading.{joined}
use Rattle.reading.specs.Knowledge.{Known, known, absent, missing, Told, value, no_value, waits}
use Rattle.reading.specs.Knowledge.{told, finished, and_then}
use Rattle.arm_env.specs.Look.{Look, Fact, Looking, all}
use Rattle.arm_env.specs.Part.{kept}
use Rattle.arm_env.specs.Held.{Held, plain}
use Rattle.arm_env.specs.Cell.{look_of}
use Rattle.arm_env.specs.declared.stop.Stop.{Stop}
use Rattle.arm_env.specs.declared.stop.Stop.TheVariants as stop

-- what is told of one cell, where what it has is of this kind
abbrev pub told_of : {A : Type 0} → (Fact → Option A) → Look → Known Fact → Told Look A
told_of f c (known x) = finished (f x)
told_of f c absent = no_value
told_of f c missing = waits c

-- what is told of a value of which a part may be accessed
abbrev pub plain_told : Option Json → Told Look Held
plain_told None = no_value
plain_told (Some j) = finished (option_map plain (kept j))

-- the outcome, as a value
abbrev pub outcome_told : {A : Type 0} → Told Look A → Told Look (Option A)
outcome_told (value x) = value (Some x)
outcome_told no_value = value None
outcome_told (waits c) = waits c

-- what was found, or that it has no value; any other stop stays
abbrev pub outcome_of : {X : Type 0} → Result X Stop → Result (Option X) Stop
outcome_of (Ok x) = Ok (Some x)
outcome_of (Err stop.NoValue) = Ok None
outcome_of (Err (stop.Waits c)) = Err (stop.Waits c)
outcome_of (Err stop.OutOfMemory) = Err stop.OutOfMemory

-- why there is no value, unless memory ran out: there is none, or a cell is waited for
abbrev pub Stops : {A : Type 0} → Stop → Told Look A → Type 0
Stops stop.NoValue t = t ≡ no_value
Stops (stop.Waits c) t = t ≡ waits (look_of c)
Stops stop.OutOfMemory t = Unit {0}

-- what is returned, seen by a view, is what is told, unless memory ran out
abbrev pub Gives : {X A : Type 0} → (X → A) → Result X Stop → Told Look A → Type 0
Gives view (Ok x) t = t ≡ value (view x)
Gives view (Err s) t = Stops s t

-- what all of these give together, put together by f
abbrev pub gathered : {A B : Type 0} → (List A → B) → (Look → Known Fact) → List (Looking A)
    → Told Look B
gathered f p os = and_then (told p (all os)) (λ xs. value (f xs))

-- the parts with one more at their end, where all are there
abbrev pub with_last : {A : Type 0} → Option (List A) → Option A → Option (List A)
with_last xs x = option_map (λ p. p.0 ++ p.1 ∷ []) (joined xs x)

-- what was gathered so far, where all had a value
abbrev pub so_far : {B : Type 0} → Bool → B → Told Look B
so_far true b = value b
so_far false b = no_value

-- all outputs have values, or why not
abbrev pub Sees : {A : Type 0} → Result (Unit {0}) Stop → Told Look A → Type 0
Sees {A} (Ok u) t = (x : A) × (t ≡ value x)
Sees (Err s) t = Stops s t
