-- What a reader returns, beside what a definition gives.
use Rattle.std.specs.Prelude.{◌≡◌, Option, Some, None, Result, Ok, Err}
use Rattle.foundation.specs.declared.stop.Stop.{Stop}
use Rattle.foundation.specs.declared.stop.Stop.TheVariants as stop

-- a reader stops so where the definition gives o: it refuses exactly where there is nothing to give
abbrev pub Stops : {A : Type 0} → Stop → Option A → Type 0
Stops stop.Refused o = o ≡ None
Stops stop.OutOfMemory o = Unit {0}

-- what a reader returns, seen by a view, is what the definition gives, unless memory ran out
abbrev pub Gives : {X A : Type 0} → (X → A) → Result X Stop → Option A → Type 0
Gives view (Ok x) o = o ≡ Some (view x)
Gives view (Err e) o = Stops e o
