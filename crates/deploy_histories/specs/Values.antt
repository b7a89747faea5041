-- The values of a task: the parameters and variables of a scope that is entered, the body of what is put, and the
-- outputs of a scope that is left.
use Rattle.std.specs.Prelude.{ℕ, Bool, true, false, List, [], ◌∷◌, map, Option, Some, None, option_map}
use Rattle.std.specs.List.{list_any}
use Rattle.arm_value.specs.Json.{Json, null}
use Rattle.reading.specs.Reading.{done, continued}
use Rattle.reading.specs.World.{reads_in}
use Rattle.reading.specs.Knowledge.{Told, value, told, blanked}
use Rattle.template_tree.specs.Tree.{TemplateTree}
use Rattle.deploy_cells.specs.Cells.{Step, Position, Cell, offered, output}
use Rattle.arm_value.specs.Kinds.{is_true}
use Rattle.deploy_cells.specs.Guarded.{Reads, not_there, there_if}
use Rattle.plan_cells.specs.Scopes.{template_at}
use Rattle.plan_cells.specs.Meaning.{Deployment, plain, bodies}
use Rattle.plan_cells.specs.Known.{Table}
use Rattle.plan_cells.specs.Children.{output_names}
use Rattle.plan_cells.specs.Start.{start_world}
use Rattle.plan_cells.specs.Tasks.{Task, enter, leave, put, delete}
use Rattle.plan_cells.specs.Reads.{entry_cells, is_given_by}
use Rattle.deploy_histories.specs.Planned.{Planned}

-- what of a task a value is
pub data Part : Type 0 where
  -- the body of what is put
  a_body : Part
  -- a parameter, a variable or an output
  a_cell : Cell → Part

-- a value of a task, by what is read for it; none where the condition of an output is false
pub record TaskValue : Type 0 where
  pub part : Part
  pub reading : Reads (Option Json)

-- a parameter or a variable has to be there
abbrev pub demanded : Reads (Option Json) → Reads (Option Json)
demanded r = continued r (λ o. done (option_map Some o))

abbrev pub where_offered : Bool → Reads (Option Json) → Reads (Option Json)
where_offered true r = r
where_offered false r = not_there

abbrev pub outputs_of : (List ℕ → TaskValue) → Option TemplateTree → List TaskValue
outputs_of f None = []
outputs_of f (Some t) = map f (output_names t)

module _ (d : Deployment) where
  abbrev pub entry_value : Cell → TaskValue
  entry_value c = record { part = a_cell c; reading = demanded (plain d c) }

  -- an output, where its condition is true
  abbrev pub output_reading : Position → List ℕ → Reads (Option Json)
  output_reading p x = continued (plain d (offered p x)) (λ v. where_offered (is_true v) (plain d (output p x)))

  abbrev pub leave_value : Position → List ℕ → TaskValue
  leave_value p x = record { part = a_cell (output p x); reading = output_reading p x }

  abbrev pub body_reading : Position → Step → Reads (Option Json)
  body_reading p s = there_if (bodies d p s)

  abbrev pub task_values : Task → List TaskValue
  task_values (enter p) = map entry_value (entry_cells d p)
  task_values (leave p) = outputs_of (leave_value p) (template_at d.template p)
  task_values (put p s) = record { part = a_body; reading = body_reading p s } ∷ []
  task_values (delete k) = []

abbrev pub value_or_null : Told Cell (Option Json) → Json
value_or_null (value (Some j)) = j
value_or_null _ = null

module _ (x : Planned) (t : Table) where
  -- whether a value reads what a task gives: the state at the key that it puts, or an output of the scope that it
  -- leaves
  abbrev pub reads_from : Task → TaskValue → Bool
  reads_from v a =
      list_any (λ c. is_given_by x.deployment (start_world x.known) v c) (reads_in (blanked t) a.reading)

  -- whether a value of the first task does, by what is known
  abbrev pub needs_by_values : Task → Task → Bool
  needs_by_values u v = list_any (reads_from v) (task_values x.deployment u)

  -- the body of a Begin, by what is known; null for a deletion
  abbrev pub body_of : Task → Json
  body_of (put p s) = value_or_null (told t (body_reading x.deployment p s))
  body_of _ = null
