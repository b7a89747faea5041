-- What became known, with one fact more.
use Rattle.std.specs.Prelude.{◌≡◌, ℕ, ◌<◌, true, [], length, Option, Some, None, option_map, slice_get}
use Rattle.std.specs.Prelude.{slice_set}
use Rattle.arm_value.specs.Json.{Json}
use Rattle.arm_value.specs.View.{json}
use Rattle.arm_value.specs.declared.value.Value.{Value}
use Rattle.deploy_cells.specs.Cells.{state}
use Rattle.plan_cells.specs.Known.{outright}
use Rattle.plan_cells.specs.Start.{start_world, at_point}
use Rattle.plan_cells.specs.Tasks.{Task}
use Rattle.plan_cells.specs.Reads.{is_given_by}
use Rattle.deploy_histories.specs.Planned.{Planned, basis}
use Rattle.deploy_histories.specs.Events.{Progress, IsDone}
use Rattle.deploy_histories.specs.Points.{point}
use Rattle.point_rows.specs.declared.later.Entry.{Entry}
use Rattle.point_rows.specs.declared.later.Entry.TheVariants as entry
use Rattle.point_rows.specs.declared.later.Later.{Later}
use Rattle.point_rows.specs.declared.later.StateAt.{StateAt}
use Rattle.point_rows.specs.Rows.{entry_at}

-- nothing became known
pub record IsBlank (l : Later) : Type 0 where
  pub no_entry : (j : ℕ) → entry_at l.entries.items j ≡ entry.Missing
  pub no_state : l.states.items ≡ []

-- what an entry says of a parameter or a variable: its value, or that it has none
abbrev pub IsEntryOf : Option Json → Entry → Type 0
IsEntryOf o (entry.Value v) = o ≡ Some (json v)
IsEntryOf o entry.Away = o ≡ None
IsEntryOf o entry.Missing = ⊥

-- the line has this entry
pub record AddsEntry (j : ℕ) (a : Entry) (l m : Later) : Type 0 where
  pub within : j < length l.entries.items
  pub entries : m.entries.items ≡ slice_set l.entries.items j a
  pub states : m.states.items ≡ l.states.items

-- its entry has a value
abbrev pub AddsValue : ℕ → Value → Later → Later → Type 0
AddsValue j v l m = AddsEntry j (entry.Value v) l m

-- the state is known at the point, and whoever puts it is done
pub record IsStateThen (x : Planned) (p : Progress) (s : StateAt) : Type 0 where
  pub is_known : at_point (basis x) (point x p.status) (state s.key) ≡ outright (option_map json s.state)
  pub is_stored : (v : ℕ) (task : Task) → slice_get x.tasks v ≡ Some task
      → is_given_by x.deployment (start_world x.known) task (state s.key) ≡ true → IsDone p v
