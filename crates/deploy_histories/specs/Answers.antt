-- The answers of a history, and which answers follow: those of a history that is replayed from them.
use Rattle.std.specs.Prelude.{◌≡◌, ◌<◌, ◌++◌, ℕ, suc, List, [], ◌∷◌, map, length, take}
use Rattle.arm_value.specs.Json.{Json, null}
use Rattle.provider_trait.specs.declared.answer.Answer.{Answer}
use Rattle.provider_trait.specs.declared.answer.Answer.TheVariants.{Stored, Gone, Refused}
use Rattle.deploy_histories.specs.Planned.{Planned}
use Rattle.deploy_histories.specs.Events.{Event, enter, begin, answer, leave, Status, is_begun, Progress, after}
use Rattle.deploy_histories.specs.Events.{after_all, at_opening}
use Rattle.deploy_histories.specs.Legal.{May, IsLegal}

-- an answer with the worker and the body of its Begin; a deletion has a null body
pub record Noted : Type 0 where
  pub task : ℕ
  pub worker : ℕ
  pub body : Json
  pub answer : Answer

abbrev pub noted : ℕ → Answer → Status → Noted
noted u a (is_begun worker body) = record { task = u; worker = worker; body = body; answer = a }
noted u a _ = record { task = u; worker = 0; body = null; answer = a }

-- the answers of events that come after this
abbrev pub answers_from : Progress → List Event → List Noted
answers_from p [] = []
answers_from p (answer u a ∷ es) = noted u a (p.status u) ∷ answers_from (after (answer u a) p) es
answers_from p (e ∷ es) = answers_from (after e p) es

abbrev pub answers_of : List Event → List Noted
answers_of h = answers_from at_opening h

abbrev pub begin_of : Noted → Event
begin_of n = begin n.task n.worker n.body

abbrev pub answer_of : Noted → Event
answer_of n = answer n.task n.answer

-- a scope of this task is entered or left
abbrev pub IsScopeEvent : ℕ → Event → Type 0
IsScopeEvent u (enter v) = v ≡ u
IsScopeEvent u (leave v) = v ≡ u
IsScopeEvent u _ = ⊥

module _ (x : Planned) where
  -- the event may come, and none of a scope of an earlier task may
  pub record IsFirstScope (p : Progress) (e : Event) : Type 0 where
    pub number : ℕ
    pub is_scope : IsScopeEvent number e
    pub may : May x p e
    pub is_first : (v : ℕ) (f : Event) → IsScopeEvent v f → v < number → May x p f → ⊥

  -- no scope may be entered or left
  abbrev pub IsSettled : Progress → Type 0
  IsSettled p = (v : ℕ) (f : Event) → IsScopeEvent v f → May x p f → ⊥

  -- scopes are entered and left, each time the first in the plan's order, until none may be
  abbrev pub Settles : Progress → List Event → Type 0
  Settles p [] = IsSettled p
  Settles p (e ∷ es) = IsFirstScope p e × Settles (after e p) es

  -- these come first: scopes are entered and left until none may be; then the others go on from there
  pub record SettlesThen (p : Progress) (h : List Event) (rest : Progress → List Event → Type 0) : Type 0 where
    pub scopes : List Event
    pub others : List Event
    pub settles : Settles p scopes
    pub is : h ≡ scopes ++ others
    pub goes_on : rest (after_all scopes p) others

-- the Begin of an answer and the answer come first; then the others go on from there
pub record PlaysThen (n : Noted) (p : Progress) (h : List Event) (rest : Progress → List Event → Type 0) : Type 0 where
  pub others : List Event
  pub is : h ≡ begin_of n ∷ answer_of n ∷ others
  pub goes_on : rest (after (answer_of n) (after (begin_of n) p)) others

-- from a refusal on: its Begin, the Begins of what was answered after it, the refusal, and the answers after it
abbrev pub last_play : Noted → List Noted → List Event
last_play n ns = begin_of n ∷ (map begin_of ns ++ (answer_of n ∷ map answer_of ns))

-- whether it refuses decides
abbrev pub where_refused : Answer → Type 0 → Type 0 → Type 0
where_refused (Refused code) r s = r
where_refused (Stored j) r s = s
where_refused Gone r s = s

-- a history is replayed from answers: before each answer scopes are entered and left, each time the first that may be,
-- until none may; then come its Begin and the answer. The Begins of what was answered after the first refusal come
-- right before this refusal, after its own Begin
abbrev pub IsReplay : Planned → Progress → List Noted → List Event → Type 0
IsReplay x p [] h = h ≡ []
IsReplay x p (n ∷ ns) h =
    SettlesThen x p h (λ q others. where_refused n.answer (others ≡ last_play n ns)
    (PlaysThen n q others (λ r more. IsReplay x r ns more)))

-- the answers follow: the history that is replayed from them is legal
pub record Follow (x : Planned) (answers : List Noted) : Type 0 where
  pub history : List Event
  pub is_replay : IsReplay x at_opening answers history
  pub is_legal : IsLegal x history

-- as many of them follow, and not one more
pub record StopsFollowing (x : Planned) (answers : List Noted) (i : ℕ) : Type 0 where
  pub within : i < length answers
  pub follow : Follow x (take i answers)
  pub no_more : Follow x (take (suc i) answers) → ⊥
