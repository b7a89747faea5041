-- What an agenda says of tasks.
use Rattle.std.specs.Prelude.{◌≡◌, ◌⊎◌, ◌<◌, ◌≤◌, ◌+◌, ℕ, ◌==◌, Bool, true, false, length, Option, Some, None}
use Rattle.std.specs.BTreeSet.{btree_set_len}
use Rattle.depend_graph.specs.Shape.{Shape, undone_needs}
use Rattle.task_agenda.specs.declared.agenda.Agenda.{Agenda}
use Rattle.task_agenda.specs.Lists as lists

-- the number of tasks
abbrev pub count : Agenda → ℕ
count a = length a.kinds.items

-- whether the task enters or leaves a scope
abbrev pub is_scope : Agenda → ℕ → Bool
is_scope a u = lists.is_scope a.kinds.items u

-- whether the task is listed
abbrev pub is_listed : Agenda → ℕ → Bool
is_listed a u = lists.is_listed_in a.kinds.items a.scopes a.acts u

-- it is listed, or a need of it is not done
abbrev pub IsSeenTo : Agenda → ℕ → Type 0
IsSeenTo a u = (is_listed a u ≡ true) ⊎ lists.IsHeldUp a.graph u

-- the tasks are the same, and so is what they need and which are done
pub record IsSame (old new : Agenda) : Type 0 where
  pub kinds : new.kinds.items ≡ old.kinds.items
  pub graph : new.graph ≡ old.graph

-- and what was listed is listed still, and what is listed besides needs nothing that is not done
pub record Keeps (old new : Agenda) : Type 0 where
  pub same : IsSame old new
  pub only : (u : ℕ) → is_listed new u ≡ true
      → (is_listed old u ≡ true) ⊎ (length (undone_needs old.graph u) ≡ 0)
  pub listed : (u : ℕ) → is_listed old u ≡ true → is_listed new u ≡ true

-- the tasks and the lists are the same, and the graph is this
pub record HasGraph (old new : Agenda) (graph : Shape) : Type 0 where
  pub kinds : new.kinds.items ≡ old.kinds.items
  pub is_graph : new.graph ≡ graph
  pub scopes : new.scopes ≡ old.scopes
  pub acts : new.acts ≡ old.acts

-- how many tasks are listed
abbrev pub listed_count : Agenda → ℕ
listed_count a = btree_set_len a.scopes + btree_set_len a.acts

-- one task is listed no more, and the others as they were
pub record TakesOff (old new : Agenda) (task : ℕ) : Type 0 where
  pub same : IsSame old new
  pub itself : is_listed new task ≡ false
  pub others : (u : ℕ) → (u == task) ≡ false → is_listed new u ≡ is_listed old u
  pub fewer : is_listed old task ≡ true → listed_count new < listed_count old

-- the least of the tasks of this kind that are listed, and none where none is listed
abbrev pub IsFirst : Agenda → Bool → Option ℕ → Type 0
IsFirst a kind None = (u : ℕ) → is_scope a u ≡ kind → is_listed a u ≡ false
IsFirst a kind (Some v) =
    (v < count a) × ((is_scope a v ≡ kind) × ((is_listed a v ≡ true)
    × ((u : ℕ) → is_scope a u ≡ kind → is_listed a u ≡ true → v ≤ u)))
