-- The needs of tasks of a table, and how they are listed.
use Rattle.std.specs.Prelude.{◌≡◌, ◌⊎◌, ◌<◌, ℕ, List, [], ◌∷◌, ◌++◌, map}
use Rattle.arm_value.specs.Json.{Json}
use Rattle.arm_ids.specs.declared.id.ResourceId.{ResourceId}
use Rattle.plan_cells.specs.Tasks.{Task, delete}
use Rattle.plan_cells.specs.Needs.{started}
use Rattle.plan_cells.specs.Plan.{Need}
use Rattle.name_tags.specs.TaskCodes.{AreDepending}
use Rattle.plan_table.specs.declared.table.Table.{Table}
use Rattle.plan_table.specs.Opened.{Opened}
use Rattle.plan_table.specs.Whole.{whole_of, scopes_of}
use Rattle.plan_tasks.specs.declared.task.ScopeTask.{ScopeTask}
use Rattle.plan_tasks.specs.Start.{start_of, task_of}
use Rattle.name_tags.specs.Loops.{loop_titles}

-- the tasks of the scopes, and then the deletes
abbrev pub all_tasks : Table → List ScopeTask → List ResourceId → List Task
all_tasks t us ks = map (task_of (scopes_of t)) us ++ map delete ks

-- the names of the loops of a scope
abbrev pub scope_loops : Opened → List (List ℕ)
scope_loops o = loop_titles o.resources

-- for each task the values of the elements of `dependsOn` of what it starts
abbrev pub AreElements : Table → List ScopeTask → List (List Json) → Type 0
AreElements t [] [] = Unit {0}
AreElements t (u ∷ us) (vs ∷ rest) =
    AreDepending (whole_of t) (start_of t) (started (task_of (scopes_of t) u)) vs × AreElements t us rest
AreElements t _ _ = ⊥

-- one pair is before another: by the first number, and then by the second
abbrev pub IsBefore : Need → Need → Type 0
IsBefore n m = (n.0 < m.0) ⊎ ((n.0 ≡ m.0) × (n.1 < m.1))

-- a pair is before the first of these
abbrev pub IsBeforeAll : Need → List Need → Type 0
IsBeforeAll n [] = Unit {0}
IsBeforeAll n (m ∷ ms) = IsBefore n m

-- each pair is before the next, so no pair is there twice
abbrev pub AreInOrder : List Need → Type 0
AreInOrder [] = Unit {0}
AreInOrder (n ∷ ns) = IsBeforeAll n ns × AreInOrder ns

-- both numbers are those of tasks
abbrev pub AreWithin : ℕ → List Need → Type 0
AreWithin k [] = Unit {0}
AreWithin k (n ∷ ns) = ((n.0 < k) × (n.1 < k)) × AreWithin k ns
