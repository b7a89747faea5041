-- From what a driver did to what the steps of its dealer show.
use Rattle.std.proofs.Common.{◌≡◌, ℕ, List, [], ◌∷◌, ◌++◌, refl, ap, ◌∙◌, Option, None, Some}
use Rattle.std.specs.Prelude.{Result, Ok, Err}
use Rattle.dealer_trait.specs.Notes.{note_of}
use Rattle.dealer_trait.specs.declared.book_fault.BookFault.{BookFault}
use Rattle.dealer_trait.specs.declared.dealer_step.DealerStep.{DealerStep}
use Rattle.dealer_trait.specs.declared.note.Note.{Note}
use Rattle.driver_loop.specs.Actions.{each, end_of, if_own, step_by, steps_of, hands_of, noted, notes_of, first_fault}
use Rattle.driver_loop.specs.Actions.{fault_of}
use Rattle.driver_loop.specs.Actions.{AreTakes}
use Rattle.driver_loop.specs.Ends.{BeginsNoMore}
use Rattle.driver_loop.specs.declared.action.Action.{Action}
use Rattle.driver_loop.specs.declared.action.Action.TheVariants.{Hand, Take}
use Rattle.driver_loop.specs.declared.fault.DriveFault.{DriveFault}
use Rattle.driver_loop.proofs.EachLemmas.{each_append}
use Rattle.provider_trait.specs.Work.{Work}
use Rattle.provider_trait.specs.declared.answer.Answer.{Answer}
use Rattle.provider_trait.specs.declared.answer.ProviderFault.{ProviderFault}
use Rattle.worker_crew.specs.Deals.{begun_by, begins, answer_by, answers, HasNoBack, HasNoBegin, BeginsNoneAfterBack}
use Rattle.worker_crew.specs.Deals.{kept_of, kept, answers_to, notes_to}
use Rattle.foundation.specs.Options.{or_else}

not_begun : (k task : ℕ) (got : Result Answer ProviderFault) (r : Option BookFault)
    → begun_by k (end_of task got r) ≡ []
not_begun k task (Ok a) None = refl
not_begun k task (Ok a) (Some f) = refl
not_begun k task (Err f) r = refl

-- the jobs that the dealer began with a seat's number are those that were handed to the seat
pub begins_hands : (k : ℕ) (l : List Action) → begins k (steps_of l) ≡ hands_of k l
unfolding begins each
begins_hands k [] = refl
begins_hands k (Hand j ∷ l) = ap (λ t. if_own k j.worker j ++ t) (begins_hands k l)
begins_hands k (Take d r ∷ l) =
    ap (λ t. t ++ begins k (steps_of l)) (not_begun k d.job.task d.got r) ∙ begins_hands k l

answer_more : (job : Work) (got : Result Answer ProviderFault) (r : Option BookFault) (x : List (ℕ × Answer))
    (y : List (Work × Answer)) → x ≡ answers_to y
    → answer_by (end_of job.task got r) ++ x ≡ answers_to (kept_of job got r ++ y)
unfolding answers_to
answer_more job (Ok a) None x y e = ap (λ t. (job.task, a) ∷ t) e
answer_more job (Ok a) (Some f) x y e = e
answer_more job (Err f) r x y e = e

-- the answers are those of the calls that were noted
pub answers_kept : (l : List Action) → answers (steps_of l) ≡ answers_to (kept l)
unfolding answers each answers_to
answers_kept [] = refl
answers_kept (Hand j ∷ l) = answers_kept l
answers_kept (Take d r ∷ l) = answer_more d.job d.got r (answers (steps_of l)) (kept l) (answers_kept l)

note_more : (job : Work) (got : Result Answer ProviderFault) (r : Option BookFault) (x : List Note)
    (y : List (Work × Answer)) → x ≡ notes_to y → noted job got r ++ x ≡ notes_to (kept_of job got r ++ y)
unfolding notes_to
note_more job (Ok a) None x y e = ap (λ t. note_of job a ∷ t) e
note_more job (Ok a) (Some f) x y e = e
note_more job (Err f) r x y e = e

-- and so are the notes
pub notes_kept : (l : List Action) → notes_of l ≡ notes_to (kept l)
unfolding each notes_to
notes_kept [] = refl
notes_kept (Hand j ∷ l) = notes_kept l
notes_kept (Take d r ∷ l) = note_more d.job d.got r (notes_of l) (kept l) (notes_kept l)

no_back_more : (task w : ℕ) (got : Result Answer ProviderFault) (r : Option BookFault) (rest : Option DriveFault)
    (l : List DealerStep) → (rest ≡ None → HasNoBack l) → or_else (fault_of w got r) rest ≡ None
    → HasNoBack (end_of task got r ∷ l)
unfolding HasNoBack
no_back_more task w (Ok a) None rest l m e = m e
no_back_more task w (Ok a) (Some f) rest l m e = cc
no_back_more task w (Err f) r rest l m e = cc

no_back : (l : List Action) → first_fault l ≡ None → HasNoBack (steps_of l)
unfolding first_fault each HasNoBack
no_back [] e = tt
no_back (Hand j ∷ l) e = no_back l e
no_back (Take d r ∷ l) e = no_back_more d.job.task d.worker d.got r (first_fault l) (steps_of l) (no_back l) e

no_begin_more : (task : ℕ) (got : Result Answer ProviderFault) (r : Option BookFault) (l : List DealerStep)
    → HasNoBegin l
    → HasNoBegin (end_of task got r ∷ l)
unfolding HasNoBegin
no_begin_more task (Ok a) None l h = h
no_begin_more task (Ok a) (Some f) l h = h
no_begin_more task (Err f) r l h = h

no_begin : (l : List Action) → AreTakes l → HasNoBegin (steps_of l)
unfolding AreTakes each HasNoBegin
no_begin [] t = tt
no_begin (Hand j ∷ l) t = absurd t
no_begin (Take d r ∷ l) t = no_begin_more d.job.task d.got r (steps_of l) (no_begin l t)

-- after the first job that was given back none was begun
pub none_after_back : (l : List Action) → BeginsNoMore l → BeginsNoneAfterBack (steps_of l)
none_after_back l h = (
  steps_of h.0,
  steps_of h.1,
  ap steps_of h.2 ∙ each_append (λ x. step_by x ∷ []) h.0 h.1,
  no_back h.0 h.3,
  no_begin h.1 h.4,
)
