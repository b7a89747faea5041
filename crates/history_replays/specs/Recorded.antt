-- What is recorded of a history in which a note was refused.
use Rattle.std.specs.Prelude.{◌≡◌, ◌⊎◌, ℕ, List, [], ◌∷◌, Some, slice_get}
use Rattle.provider_trait.specs.declared.answer.Answer.{Answer}
use Rattle.plan_cells.specs.Tasks.{Task}
use Rattle.history_laws.specs.Planned.{Planned}
use Rattle.history_laws.specs.Events.{Event, enter, begin, answer, back, leave, crash}
use Rattle.history_laws.specs.Legal.{SuitsTask}

-- the event comes first, and then the rest
abbrev pub ComesFirst : Event → (List Event → Type 0) → List Event → Type 0
ComesFirst e rest events = (others : List Event) × ((events ≡ e ∷ others) × rest others)

-- an answer that suits the task comes first, and then the rest
pub record IsAnswered (x : Planned) (u : ℕ) (rest : List Event → Type 0) (events : List Event) : Type 0 where
  pub given : Answer
  pub task : Task
  pub is_task : slice_get x.tasks u ≡ Some task
  pub suits : SuitsTask task given
  pub comes_first : ComesFirst (answer u given) rest events

-- from the first Back of a history on, where nothing is begun any more: scopes are left out, and an answer may be in
-- the place of a Back, since its note may have been kept
abbrev pub IsRecord : Planned → List Event → List Event → Type 0
IsRecord x [] events = events ≡ []
IsRecord x (enter u ∷ es) events = IsRecord x es events
IsRecord x (leave u ∷ es) events = IsRecord x es events
IsRecord x (begin u worker body ∷ es) events = ⊥
IsRecord x (answer u a ∷ es) events = ComesFirst (answer u a) (λ others. IsRecord x es others) events
IsRecord x (crash ∷ es) events = ComesFirst crash (λ others. IsRecord x es others) events
IsRecord x (back u ∷ es) events =
    ComesFirst (back u) (λ others. IsRecord x es others) events
    ⊎ IsAnswered x u (λ others. IsRecord x es others) events
