-- What was refused is a task.
use Rattle.std.proofs.Common.{◌≡◌, ℕ, ◌<◌, List, [], ◌∷◌, length, Option, Some, None, subst}
use Rattle.std.proofs.lemmas.Option.{slice_get_within}
use Rattle.provider_trait.specs.declared.answer.Answer.TheVariants.{Stored, Gone, Refused}
use Rattle.deploy_histories.specs.Planned.{Planned}
use Rattle.deploy_histories.specs.Events.{Event, enter, begin, answer, back, leave, crash, Refusal, Progress}
use Rattle.deploy_histories.specs.Events.{after, after_all, at_opening, first_refusal, progress}
use Rattle.deploy_histories.specs.Legal.{May, IsLegal, IsLegalFrom}

-- the refusal is of a task
abbrev IsOfTask : Planned → Option Refusal → Type 0
IsOfTask x None = Unit {0}
IsOfTask x (Some r) = r.task < length x.tasks

first_is : (x : Planned) (o : Option Refusal) (r : Refusal) → IsOfTask x o → r.task < length x.tasks
    → IsOfTask x (first_refusal o r)
first_is x None r h k = k
first_is x (Some q) r h k = h

after_is : (x : Planned) (p : Progress) (e : Event) → May x p e → IsOfTask x p.refusal
    → IsOfTask x (after e p).refusal
after_is x p (enter u) m h = h
after_is x p (begin u worker body) m h = h
after_is x p (answer u (Stored j)) m h = h
after_is x p (answer u Gone) m h = h
after_is x p (answer u (Refused code)) m h =
    first_is x p.refusal (record { task = u; code = code }) h (slice_get_within x.tasks u m.ended m.is_task)
after_is x p (back u) m h = h
after_is x p (leave u) m h = h
after_is x p crash m h = h

all_is : (x : Planned) (p : Progress) (es : List Event) → IsLegalFrom x p es → IsOfTask x p.refusal
    → IsOfTask x (after_all es p).refusal
all_is x p [] l h = h
all_is x p (e ∷ es) l h = all_is x (after e p) es l.1 (after_is x p e l.0 h)

-- what a legal history refused first is a task
pub refused_within : (x : Planned) (h : List Event) → IsLegal x h → (u : ℕ) (code : List ℕ)
    → (progress h).refusal ≡ Some (record { task = u; code = code }) → u < length x.tasks
refused_within x h l u code e = subst (IsOfTask x) e (all_is x at_opening h l tt)
