-- What a round does to a seat.
use Rattle.std.specs.Prelude.{◌≡◌, ℕ, Bool, List, Result, Some, None}
use Rattle.provider_trait.specs.Work.{Work}
use Rattle.provider_trait.specs.declared.answer.Answer.{Answer}
use Rattle.provider_trait.specs.declared.answer.ProviderFault.{ProviderFault}
use Rattle.provider_trait.specs.declared.call.Call.{Call}
use Rattle.seat_calls.specs.declared.seat.Seat.{Seat}
use Rattle.seat_calls.specs.Called.{Kind, Called}

module _ {P : Type 0} (may : Kind) (tells : Bool) (calls : P → List Call) (faults : P → ℕ) where
  -- the seat keeps its job, and has what one call with the job returned
  abbrev pub HasCalled : Seat P → Work → Seat P → Type 0
  HasCalled old job new = (got : Result Answer ProviderFault) × (new.job ≡ Some job) × (new.got ≡ Some got)
      × Called may tells calls faults old.provider new.provider job got

  -- a seat with a job has made one call with it, and a seat without one is unchanged
  abbrev pub HasRun : Seat P → Seat P → Type 0
  HasRun old new = (old.job ≡ None → new ≡ old) × ((job : Work) → old.job ≡ Some job → HasCalled old job new)
