-- How far recorded answers were played.
use Rattle.std.specs.Prelude.{◌≡◌, ◌≢◌, ℕ, Bool, true, false, List, [], ◌∷◌, ◌++◌, map, Option, Some, None, slice_get}
use Rattle.arm_value.specs.Json.{Json}
use Rattle.provider_trait.specs.declared.answer.Answer.{Answer}
use Rattle.provider_trait.specs.declared.answer.Answer.TheVariants.{Stored, Gone, Refused}
use Rattle.plan_cells.specs.Tasks.{Task}
use Rattle.deploy_histories.specs.Planned.{Planned}
use Rattle.deploy_histories.specs.Events.{Event, answer, Progress, progress, at_opening}
use Rattle.deploy_histories.specs.Legal.{May, MayStart, MayEnd, SuitsTask}
use Rattle.deploy_histories.specs.Answers.{Noted, begin_of, where_refused, Settles, IsReplay, Follow, StopsFollowing}
use Rattle.board_history.specs.Stages.{refuses}
use Rattle.task_standings.specs.declared.standing.Kind.{Kind}
use Rattle.task_standings.specs.declared.standing.Kind.TheVariants.{Enter, Put, Delete, Leave}
use Rattle.board_dealing.specs.Looks.{IsReady}

-- whether the answer suits a task of this kind
abbrev pub suits_kind : Kind → Answer → Bool
suits_kind Put (Stored state) = true
suits_kind Put Gone = false
suits_kind Put (Refused code) = true
suits_kind Delete (Stored state) = false
suits_kind Delete Gone = true
suits_kind Delete (Refused code) = true
suits_kind Enter a = false
suits_kind Leave a = false

-- the task is ready with this body; or it may not start with it
abbrev pub IsReadyAs : Planned → Progress → ℕ → Json → Bool → Type 0
IsReadyAs x p u body true = IsReady x p u body
IsReadyAs x p u body false = (one : Task) → MayStart x p u one body → ⊥

-- the answer suits its task
pub record SuitsNoted (x : Planned) (n : Noted) : Type 0 where
  pub of : Task
  pub is_task : slice_get x.tasks n.task ≡ Some of
  pub suits : SuitsTask of n.answer

-- the task of an answer is ready with the body, and the answer suits it; or its Begin may not come, or it suits it not
abbrev pub IsPlayable : Planned → Progress → Noted → Bool → Type 0
IsPlayable x p n true = IsReady x p n.task n.body × SuitsNoted x n
IsPlayable x p n false = May x p (begin_of n) → SuitsNoted x n → ⊥

-- the task of an answer was begun, which might be, and the answer may come
pub record IsBegunNow (x : Planned) (old : List Event) (n : Noted) (new : List Event) : Type 0 where
  pub might : May x (progress old) (begin_of n)
  pub is : new ≡ old ++ begin_of n ∷ []
  pub may_end : MayEnd x (progress new) n.task n.answer

-- this answer is to come; or nothing happened, and its task may not be begun with the body or it suits its task not
abbrev pub IsBegunFor : Planned → List Event → Noted → List Event → Option (ℕ × Answer) → Type 0
IsBegunFor x old n new (Some l) = (l ≡ (n.task, n.answer)) × IsBegunNow x old n new
IsBegunFor x old n new None = (new ≡ old) × IsPlayable x (progress old) n false

-- an answer that refuses is kept for later; another one comes at once
abbrev pub IsEnded : ℕ → Answer → List (ℕ × Answer) → List (ℕ × Answer) → List Event → List Event → Type 0
IsEnded u a old_late new_late old new =
    where_refused a ((new_late ≡ old_late ++ (u, a) ∷ []) × (new ≡ old))
    ((new_late ≡ old_late) × (new ≡ old ++ answer u a ∷ []))

-- none of these answers refuses
abbrev pub NoneRefuses : List Noted → Type 0
NoneRefuses [] = Unit {0}
NoneRefuses (n ∷ ns) = (refuses n.answer ≡ false) × NoneRefuses ns

-- none of these answers is one of the task
abbrev pub NoneOf : ℕ → List (ℕ × Answer) → Type 0
NoneOf u [] = Unit {0}
NoneOf u (l ∷ ls) = (l.0 ≢ u) × NoneOf u ls

-- each of these answers may come, one of each task
abbrev pub AreOpen : Planned → Progress → List (ℕ × Answer) → Type 0
AreOpen x p [] = Unit {0}
AreOpen x p (l ∷ ls) = MayEnd x p l.0 l.1 × (NoneOf l.0 ls × AreOpen x p ls)

-- the history is replayed from the answers, of which none refuses
pub record ArePlayed (x : Planned) (ns : List Noted) (h : List Event) : Type 0 where
  pub none_refuses : NoneRefuses ns
  pub is_replay : IsReplay x at_opening ns h

-- the answers have a first one that refuses. The history is replayed from those before it, and then scopes were entered
-- and left; from that answer on there are the Begins, and the answers are late: they may come
pub record AreLate (x : Planned) (ns : List Noted) (late : List (ℕ × Answer)) (h : List Event) : Type 0 where
  pub front : List Noted
  pub first : Noted
  pub more : List Noted
  pub are : ns ≡ front ++ first ∷ more
  pub none_refuses : NoneRefuses front
  pub does_refuse : refuses first.answer ≡ true
  pub replayed : List Event
  pub is_replay : IsReplay x at_opening front replayed
  pub scopes : List Event
  pub settles : Settles x (progress replayed) scopes
  pub is : h ≡ replayed ++ (scopes ++ map begin_of (first ∷ more))
  pub late_are : late ≡ map (λ n. (n.task, n.answer)) (first ∷ more)
  pub are_open : AreOpen x (progress h) late

-- how far answers were played: none is late, or some are
abbrev pub HavePlayed : Planned → List Noted → List (ℕ × Answer) → List Event → Type 0
HavePlayed x ns [] h = ArePlayed x ns h
HavePlayed x ns (l ∷ ls) h = AreLate x ns (l ∷ ls) h

-- one answer more was played; or with it the answers do not follow
abbrev pub IsPlayedOn : Planned → List Noted → Noted → List (ℕ × Answer) → List Event → Bool → Type 0
IsPlayedOn x ns n late h true = HavePlayed x (ns ++ n ∷ []) late h
IsPlayedOn x ns n late h false = Follow x (ns ++ n ∷ []) → ⊥

-- all answers were played; or this many of them follow, and not one more
abbrev pub AreAllPlayed : Planned → List Noted → List (ℕ × Answer) → List Event → Option ℕ → Type 0
AreAllPlayed x ns late h None = HavePlayed x ns late h
AreAllPlayed x ns late h (Some i) = StopsFollowing x ns i
