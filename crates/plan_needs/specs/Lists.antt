-- The tags of all tasks, and those for which they ask.
use Rattle.std.specs.Prelude.{List, [], ◌∷◌, map}
use Rattle.std.specs.declared.vec.Vec.{Vec}
use Rattle.std.specs.declared.alloc.Global.{Global}
use Rattle.arm_value.specs.Json.{Json}
use Rattle.arm_value.specs.View.{json}
use Rattle.arm_value.specs.declared.value.Value.{Value}
use Rattle.arm_ids.specs.declared.id.ResourceId.{ResourceId}
use Rattle.tag_needs.specs.Tags.{Tag}
use Rattle.plan_cells.specs.Tasks.{delete}
use Rattle.name_tags.specs.TaskCodes.{task_tags, task_asks}
use Rattle.plan_table.specs.declared.table.Table.{Table}
use Rattle.plan_table.specs.Whole.{whole_of, scopes_of}
use Rattle.plan_tasks.specs.declared.task.ScopeTask.{ScopeTask}
use Rattle.plan_tasks.specs.Start.{start_of, task_of}
use Rattle.plan_needs.specs.Numbers.{number_in}

-- the values of the code
abbrev pub values_in : List (Vec Value Global) → List (List Json)
values_in vs = map (λ v. map json v.items) vs

abbrev pub tags_of_task : Table → ScopeTask → List Tag
tags_of_task t u = task_tags (whole_of t) (number_in (scopes_of t)) (start_of t) (task_of (scopes_of t) u)

abbrev pub tags_of_tasks : Table → List ScopeTask → List (List Tag)
tags_of_tasks t us = map (tags_of_task t) us

abbrev pub asks_of_task : Table → ScopeTask → List Json → List Tag
asks_of_task t u vs = task_asks (whole_of t) (number_in (scopes_of t)) (task_of (scopes_of t) u) vs

-- each task with its values
abbrev pub asks_of_tasks : Table → List ScopeTask → List (List Json) → List (List Tag)
asks_of_tasks t [] vss = []
asks_of_tasks t (u ∷ us) [] = asks_of_task t u [] ∷ asks_of_tasks t us []
asks_of_tasks t (u ∷ us) (vs ∷ vss) = asks_of_task t u vs ∷ asks_of_tasks t us vss

-- of deletes
abbrev pub tags_of_deletes : Table → List ResourceId → List (List Tag)
tags_of_deletes t ks = map (λ k. task_tags (whole_of t) (number_in (scopes_of t)) (start_of t) (delete k)) ks

abbrev pub asks_of_deletes : Table → List ResourceId → List (List Tag)
asks_of_deletes t ks = map (λ k. task_asks (whole_of t) (number_in (scopes_of t)) (delete k) []) ks
