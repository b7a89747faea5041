-- What a drive shows in the steps of its dealer.
use Rattle.std.specs.Prelude.{◌≡◌, ℕ, List, [], ◌∷◌, ◌++◌, Option, None, Some, Result, Ok, Err}
use Rattle.dealer_trait.specs.Notes.{note_of}
use Rattle.dealer_trait.specs.declared.book_fault.BookFault.{BookFault}
use Rattle.dealer_trait.specs.declared.dealer_step.DealerStep.{DealerStep}
use Rattle.dealer_trait.specs.declared.dealer_step.DealerStep.TheVariants.{Begin, Answer as Answered, Back}
use Rattle.dealer_trait.specs.declared.note.Note.{Note}
use Rattle.driver_loop.specs.Actions.{each, if_own}
use Rattle.driver_loop.specs.declared.action.Action.{Action}
use Rattle.driver_loop.specs.declared.action.Action.TheVariants.{Hand, Take}
use Rattle.provider_trait.specs.Work.{Work}
use Rattle.provider_trait.specs.declared.answer.Answer.{Answer}
use Rattle.provider_trait.specs.declared.answer.ProviderFault.{ProviderFault}

abbrev pub begun_by : ℕ → DealerStep → List Work
begun_by k (Begin job) = if_own k job.worker job
begun_by k (Answered task answer) = []
begun_by k (Back task) = []

-- the jobs that were begun with the number of the seat k, in order
unfoldable pub begins : ℕ → List DealerStep → List Work
begins k [] = []
begins k (step ∷ rest) = begun_by k step ++ begins k rest

abbrev pub answer_by : DealerStep → List (ℕ × Answer)
answer_by (Begin job) = []
answer_by (Answered task answer) = (task, answer) ∷ []
answer_by (Back task) = []

-- the tasks that were answered, each with its answer, in order
unfoldable pub answers : List DealerStep → List (ℕ × Answer)
answers [] = []
answers (step ∷ rest) = answer_by step ++ answers rest

-- no job was given back
unfoldable pub HasNoBack : List DealerStep → Type 0
HasNoBack [] = Unit {0}
HasNoBack (Begin job ∷ rest) = HasNoBack rest
HasNoBack (Answered task answer ∷ rest) = HasNoBack rest
HasNoBack (Back task ∷ rest) = ⊥

-- no job was begun
unfoldable pub HasNoBegin : List DealerStep → Type 0
HasNoBegin [] = Unit {0}
HasNoBegin (Begin job ∷ rest) = ⊥
HasNoBegin (Answered task answer ∷ rest) = HasNoBegin rest
HasNoBegin (Back task ∷ rest) = HasNoBegin rest

-- after the first job that was given back none was begun
abbrev pub BeginsNoneAfterBack : List DealerStep → Type 0
BeginsNoneAfterBack steps =
    (a : List DealerStep) × (b : List DealerStep) × (steps ≡ a ++ b) × HasNoBack a × HasNoBegin b

abbrev pub kept_of : Work → Result Answer ProviderFault → Option BookFault → List (Work × Answer)
kept_of job (Ok answer) None = (job, answer) ∷ []
kept_of job (Ok answer) (Some refused) = []
kept_of job (Err reason) refused = []

abbrev pub kept_by : Action → List (Work × Answer)
kept_by (Hand job) = []
kept_by (Take done refused) = kept_of done.job done.got refused

-- the jobs whose calls were answered and noted, each with what its call gave, in order
abbrev pub kept : List Action → List (Work × Answer)
kept course = each kept_by course

-- the tasks of these jobs with their answers
unfoldable pub answers_to : List (Work × Answer) → List (ℕ × Answer)
answers_to [] = []
answers_to (x ∷ rest) = (x.0.task, x.1) ∷ answers_to rest

-- the notes of these jobs and their answers
unfoldable pub notes_to : List (Work × Answer) → List Note
notes_to [] = []
notes_to (x ∷ rest) = note_of x.0 x.1 ∷ notes_to rest
