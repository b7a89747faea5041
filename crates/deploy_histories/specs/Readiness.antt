-- Whether a task may begin, be entered or be left: one word, with cases that exclude one another.
use Rattle.std.specs.Prelude.{◌≡◌, ◌++◌, ◌<◌, ℕ, ◌&&◌, ◌||◌, not, Bool, true, false, List, [], ◌∷◌}
use Rattle.std.specs.Prelude.{Option, Some, None, option_map, slice_get, if◌then◌else◌}
use Rattle.arm_value.specs.Json.{Json}
use Rattle.reading.specs.Knowledge.{Told, value, told}
use Rattle.deploy_cells.specs.Cells.{Cell, offered, output}
use Rattle.plan_cells.specs.Known.{Table}
use Rattle.plan_cells.specs.Meaning.{Deployment, raw, rule, plain}
use Rattle.plan_cells.specs.Tasks.{Task}
use Rattle.plan_cells.specs.Needs.{needs}
use Rattle.plan_cells.specs.Children.{Has}
use Rattle.deploy_histories.specs.Planned.{Planned, first_task}
use Rattle.deploy_histories.specs.Events.{Status, is_waiting, is_begun, is_done, Progress, done_status, IsDone}
use Rattle.deploy_histories.specs.Values.{Part, a_body, a_cell, TaskValue, task_values, needs_by_values, body_of}

-- why a task that needs nothing more is not ready
pub data Fault : Type 0 where
  -- a value of it has no value
  lacks : Part → Fault
  -- what is read for a cell breaks the cell's rule
  breaks : Cell → Json → Fault

pub data Readiness : Type 0 where
  -- it is done, or a Begin of it is open
  over : Readiness
  under_way : Readiness
  -- it needs this task, which is not done
  needs_task : ℕ → Readiness
  -- it needs nothing more, and this is why it is not ready
  at_fault : Fault → Readiness
  -- it is ready, with this body
  ready : Json → Readiness

abbrev pub is_yes : {C : Type 0} → Told C Bool → Bool
is_yes (value b) = b
is_yes _ = false

abbrev pub is_told : {C A : Type 0} → Told C A → Bool
is_told (value a) = true
is_told _ = false

-- a cell has no value, or what is read for it breaks its rule
abbrev pub cell_fault : (Cell → Json → Bool) → Cell → Option (Told Cell Json) → Fault
cell_fault meets c (Some (value j)) = if meets c j then lacks (a_cell c) else breaks c j
cell_fault meets c _ = lacks (a_cell c)

module _ (d : Deployment) (t : Table) where
  abbrev pub fault_of_cell : Cell → Fault
  fault_of_cell c = cell_fault (rule d) c (option_map (told t) (raw d c))

  -- an output whose condition has no value, or one that is neither true nor false, has no value
  abbrev pub fault_of_part : Part → Fault
  fault_of_part a_body = lacks a_body
  fault_of_part (a_cell (output p x)) =
      if is_told (told t (plain d (offered p x))) then fault_of_cell (output p x) else lacks (a_cell (output p x))
  fault_of_part (a_cell c) = fault_of_cell c

  abbrev pub fault_or : Part → Told Cell (Option Json) → Option Fault → Option Fault
  fault_or a (value o) rest = rest
  fault_or a _ rest = Some (fault_of_part a)

  -- the first of these that has no value
  abbrev pub first_fault : List TaskValue → Option Fault
  first_fault [] = None
  first_fault (a ∷ more) = fault_or a.part (told t a.reading) (first_fault more)

abbrev pub by_fault : Option Fault → Json → Readiness
by_fault (Some f) body = at_fault f
by_fault None body = ready body

abbrev pub by_need : Option ℕ → Readiness → Readiness
by_need (Some v) r = needs_task v
by_need None r = r

abbrev pub by_status : Status → Readiness → Readiness
by_status (is_done o) r = over
by_status (is_begun worker body) r = under_way
by_status is_waiting r = r

-- by what is known at the start the first task needs the second
abbrev pub needs_first : Planned → Task → Task → Bool
needs_first x u v = is_yes (told x.known (needs x.deployment u v))

module _ (x : Planned) (t : Table) where
  -- the first task needs the second, by what is known at the start or by what its values read
  abbrev pub needs_now : Task → Task → Bool
  needs_now u v = needs_first x u v || needs_by_values x t u v

  -- the first task in the plan's order that is needed and not done
  abbrev pub first_undone : (ℕ → Status) → Task → Option ℕ
  first_undone f u = first_task (λ n v. not (done_status (f n)) && needs_now u v) x.tasks

  -- of the task with a number, by what is known
  abbrev pub readiness : (ℕ → Status) → ℕ → Task → Readiness
  readiness f u task =
      by_status (f u)
      (by_need (first_undone f task)
      (by_fault (first_fault x.deployment t (task_values x.deployment task)) (body_of x t task)))

  -- a task is ready: no Begin of it is open, it is not done, and each task that it needs is done
  pub record IsFree (p : Progress) (u : ℕ) (task : Task) : Type 0 where
    pub waits_still : p.status u ≡ is_waiting
    pub needs_done : (v : ℕ) (other : Task) → slice_get x.tasks v ≡ Some other → needs_now task other ≡ true
        → IsDone p v

  -- and each of its values is known
  pub record IsReadyWith (p : Progress) (u : ℕ) (task : Task) (body : Json) : Type 0 where
    pub is_free : IsFree p u task
    pub has_values : (a : TaskValue) → Has a (task_values x.deployment task)
        → (o : Option Json) × (told t a.reading ≡ value o)
    pub has_body : body_of x t task ≡ body

  -- it needs the task, which is not done, and no earlier one that is not done
  pub record IsHeldUp (p : Progress) (u : ℕ) (task : Task) (v : ℕ) : Type 0 where
    pub waits_still : p.status u ≡ is_waiting
    pub other : Task
    pub is_task : slice_get x.tasks v ≡ Some other
    pub is_needed : needs_now task other ≡ true
    pub is_undone : done_status (p.status v) ≡ false
    pub is_first : (w : ℕ) (earlier : Task) → w < v → slice_get x.tasks w ≡ Some earlier
        → needs_now task earlier ≡ true → IsDone p w

  -- this is the first value that is not known
  pub record IsUnknown (values : List TaskValue) (a : TaskValue) : Type 0 where
    pub front : List TaskValue
    pub rest : List TaskValue
    pub is : values ≡ front ++ a ∷ rest
    pub before : (b : TaskValue) → Has b front → (o : Option Json) × (told t b.reading ≡ value o)
    pub here : (o : Option Json) → told t a.reading ≡ value o → ⊥

  -- it needs nothing more, and this is the fault of the first value that is not known
  pub record IsAtFault (p : Progress) (u : ℕ) (task : Task) (f : Fault) : Type 0 where
    pub is_free : IsFree p u task
    pub unknown : TaskValue
    pub is_unknown : IsUnknown (task_values x.deployment task) unknown
    pub has_fault : fault_of_part x.deployment t unknown.part ≡ f
