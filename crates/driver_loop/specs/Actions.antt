-- What a driver does, and what follows from it for the dealer, the book and the seats.
use Rattle.std.specs.Prelude.{ℕ, List, [], ◌∷◌, ◌++◌, ◌==◌, if◌then◌else◌, Option, None, Some, Result, Ok, Err}
use Rattle.dealer_trait.specs.Notes.{note_of}
use Rattle.dealer_trait.specs.Steps.{begin, answered, given_back}
use Rattle.dealer_trait.specs.declared.book_fault.BookFault.{BookFault}
use Rattle.dealer_trait.specs.declared.dealer_step.DealerStep.{DealerStep}
use Rattle.dealer_trait.specs.declared.note.Note.{Note}
use Rattle.driver_loop.specs.declared.action.Action.{Action}
use Rattle.driver_loop.specs.declared.action.Action.TheVariants.{Hand, Take}
use Rattle.driver_loop.specs.declared.fault.DriveFault.{DriveFault}
use Rattle.driver_loop.specs.declared.fault.DriveFault.TheVariants.{Provider, Book, OutOfMemory as IsOutOfMemory}
use Rattle.provider_trait.specs.Work.{Work}
use Rattle.provider_trait.specs.declared.answer.Answer.{Answer}
use Rattle.provider_trait.specs.declared.answer.ProviderFault.{ProviderFault}
use Rattle.provider_trait.specs.declared.answer.ProviderFault.TheVariants.{Fault, OutOfMemory}
use Rattle.seat_calls.specs.declared.done.Done.{Done}
use Rattle.foundation.specs.Options.{or_else}

-- a result was received and settled
abbrev pub taken : Done → Option BookFault → Action
taken done refused = Take done refused

-- the job, where it is of the seat k
abbrev pub if_own : ℕ → ℕ → Work → List Work
if_own k worker job = if worker == k then job ∷ [] else []

-- what each action gives, in order
unfoldable pub each : {A : Type 0} → (Action → List A) → List Action → List A
each f [] = []
each f (x ∷ rest) = f x ++ each f rest

-- how a Begin ends: by the answer where it was noted, and else by its Back
abbrev pub end_of : ℕ → Result Answer ProviderFault → Option BookFault → DealerStep
end_of task (Ok answer) None = answered task answer
end_of task (Ok answer) (Some refused) = given_back task
end_of task (Err reason) refused = given_back task

abbrev pub step_by : Action → DealerStep
step_by (Hand job) = begin job
step_by (Take done refused) = end_of done.job.task done.got refused

-- the steps of the dealer
abbrev pub steps_of : List Action → List DealerStep
steps_of course = each (λ x. step_by x ∷ []) course

abbrev pub hand_by : ℕ → Action → List Work
hand_by k (Hand job) = if_own k job.worker job
hand_by k (Take done refused) = []

-- the jobs that were begun with this seat's number, in order
abbrev pub hands_of : ℕ → List Action → List Work
hands_of k course = each (hand_by k) course

abbrev pub done_by : Action → List Done
done_by (Hand job) = []
done_by (Take done refused) = done ∷ []

-- the results that were received, in order
abbrev pub dones_of : List Action → List Done
dones_of course = each done_by course

abbrev pub noted : Work → Result Answer ProviderFault → Option BookFault → List Note
noted job (Ok answer) None = note_of job answer ∷ []
noted job (Ok answer) (Some refused) = []
noted job (Err reason) refused = []

abbrev pub note_by : Action → List Note
note_by (Hand job) = []
note_by (Take done refused) = noted done.job done.got refused

-- the notes that the book took, in order
abbrev pub notes_of : List Action → List Note
notes_of course = each note_by course

abbrev pub refused_by : Result Answer ProviderFault → Option BookFault → List BookFault
refused_by (Ok answer) None = []
refused_by (Ok answer) (Some refused) = refused ∷ []
refused_by (Err reason) refused = []

abbrev pub refusal_by : Action → List BookFault
refusal_by (Hand job) = []
refusal_by (Take done refused) = refused_by done.got refused

-- the refusals of the book, in order
abbrev pub refusals_of : List Action → List BookFault
refusals_of course = each refusal_by course

-- the fault of a seat whose call gave no answer
abbrev pub blame : ℕ → ProviderFault → DriveFault
blame worker Fault = Provider worker
blame worker OutOfMemory = IsOutOfMemory

abbrev pub fault_of : ℕ → Result Answer ProviderFault → Option BookFault → Option DriveFault
fault_of worker (Ok answer) None = None
fault_of worker (Ok answer) (Some refused) = Some (Book refused)
fault_of worker (Err reason) refused = Some (blame worker reason)

-- the fault that an action shows
abbrev pub fault_by : Action → Option DriveFault
fault_by (Hand job) = None
fault_by (Take done refused) = fault_of done.worker done.got refused

-- the first fault
unfoldable pub first_fault : List Action → Option DriveFault
first_fault [] = None
first_fault (x ∷ rest) = or_else (fault_by x) (first_fault rest)

-- jobs were handed out, and nothing else was done
unfoldable pub AreHands : List Action → Type 0
AreHands [] = Unit {0}
AreHands (Hand job ∷ rest) = AreHands rest
AreHands (Take done refused ∷ rest) = ⊥

-- results were settled, and nothing else was done
unfoldable pub AreTakes : List Action → Type 0
AreTakes [] = Unit {0}
AreTakes (Hand job ∷ rest) = ⊥
AreTakes (Take done refused ∷ rest) = AreTakes rest
