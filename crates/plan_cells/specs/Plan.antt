-- The plan of a deployment: its tasks, the keys of its puts, and which task needs which.
use Rattle.std.specs.Prelude.{◌≡◌, ◌↔◌, ◌⊎◌, ℕ, Bool, true, List, [], ◌∷◌, slice_get, Some}
use Rattle.deploy_cells.specs.Held.{HeldResource}
use Rattle.reading.specs.Knowledge.{value, told}
use Rattle.template_parameters.specs.Mode.{Mode}
use Rattle.plan_cells.specs.Known.{Table}
use Rattle.plan_cells.specs.Meaning.{Deployment}
use Rattle.plan_cells.specs.Tasks.{Task, Work, work}
use Rattle.plan_cells.specs.Needs.{needs}
use Rattle.plan_cells.specs.Start.{IsStart}

-- the number of a task, and that of one that it needs
abbrev pub Need : Type 0
Need = ℕ × ℕ

abbrev pub IsListed : Need → List Need → Type 0
IsListed n [] = ⊥
IsListed n (m ∷ ms) = (m ≡ n) ⊎ IsListed n ms

-- the pair is listed exactly where the one task needs the other by what is known
pub record IsNeedOf (d : Deployment) (q : Table) (ns : List Need) (i j : ℕ) (u v : Task) : Type 0 where
  pub answer : Bool
  pub is_told : told q (needs d u v) ≡ value answer
  pub listed : (answer ≡ true) ↔ IsListed (i, j) ns

-- the pairs are the needs of these tasks
abbrev pub AreNeeds : Deployment → Table → List Task → List Need → Type 0
AreNeeds d q ts ns = (i j : ℕ) (u v : Task) → slice_get ts i ≡ Some u → slice_get ts j ≡ Some v
    → IsNeedOf d q ns i j u v

-- the plan has the tasks, the keys and the needs of what is known at the start
pub record IsPlan (d : Deployment) (mode : Mode) (held : List HeldResource) (w : Work) (ns : List Need) : Type 0 where
  pub table : Table
  pub is_start : IsStart d table
  pub has_tasks : told table (work d mode held) ≡ value w
  pub has_needs : AreNeeds d table w.tasks ns
