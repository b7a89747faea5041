-- The sites of expressions of a table, and what is told of its cells.
use Rattle.std.specs.Prelude.{◌≡◌, ℕ, ◌∷◌, Bool, true, false, Option, None, is_some, nat_lt, codes, if◌then◌else◌}
use Rattle.arm_value.specs.Json.{Json}
use Rattle.arm_value.specs.View.{json}
use Rattle.arm_eval.specs.Trees.{tree_value}
use Rattle.template_parts.specs.declared.content.Argument.{Argument}
use Rattle.reading.specs.Reading.{done, ask, read}
use Rattle.reading.specs.Knowledge.{Told}
use Rattle.deploy_cells.specs.Cells.{Step, step, Position, Cell, count, name, copies}
use Rattle.deploy_cells.specs.Guarded.{Reads, there_if}
use Rattle.plan_cells.specs.Resources.{Listed}
use Rattle.plan_cells.specs.Scopes.{loops_inside, resource_of}
use Rattle.plan_cells.specs.Sites.{Texts, Site, reading_at, body_site, name_site}
use Rattle.plan_cells.specs.Meaning.{content_value, raw}
use Rattle.plan_table.specs.declared.table.Table.{Table}
use Rattle.plan_table.specs.declared.frame.Instance.{Instance}
use Rattle.plan_table.specs.declared.line.Spot.{Spot}
use Rattle.plan_table.specs.Opened.{step_of}
use Rattle.plan_table.specs.Lines.{cell_of, IsPlaced}
use Rattle.plan_table.specs.Whole.{whole_of, scopes_of}
use Rattle.plan_table.specs.Found.{scope_at}
use Rattle.plan_sight.specs.Ready.{told_in}

-- in an instance of a scope, where texts mean this
abbrev pub instance_site : Table → ℕ → Step → Texts → Site
instance_site t f s x = record {
  at = (scope_at t f).position;
  loops = loops_inside (whole_of t).template (scope_at t f).position s;
  texts = x;
}

-- what is told of the value of a cell, before its rule is asked; where there is no such cell it is not there
abbrev pub told_raw : Table → Spot → Told Cell (Option Json)
told_raw t s = told_in t (there_if (raw (whole_of t) (cell_of (scopes_of t) s)))

-- the spot is one of the table
abbrev pub IsSpot : Table → Spot → Type 0
IsSpot t s = IsPlaced (scopes_of t) s

-- the own name of an instance, before that of its parent
abbrev pub own_name : Table → ℕ → Step → Listed → Reads Json
own_name t f s x = reading_at (whole_of t).template t.place.now
    (name_site (whole_of t).template (scope_at t f).position s) (tree_value (json x.declaration.name))

abbrev pub first_name : Bool → Position → ℕ → Reads Json
first_name false p n = done None
first_name true p n = read (name p (step n 0))

-- the name of the first instance of the resource of a number, where it has one
abbrev pub name_above : Table → ℕ → ℕ → Reads Json
name_above t f n =
    if is_some (resource_of (whole_of t).template (scope_at t f).position n)
    then ask (count (scope_at t f).position n) (λ v. first_name (nat_lt 0 (copies v)) (scope_at t f).position n)
    else done None

-- the value of an argument of an instance of a nested deployment, in the scope at a position
abbrev pub argument_at : Table → Position → Step → Argument → Reads Json
argument_at t p s a = reading_at (whole_of t).template t.place.now (body_site (whole_of t).template p s)
    (content_value (codes "value") a.content)

abbrev pub argument_value : Table → ℕ → Step → Argument → Reads Json
argument_value t f s a = argument_at t (scope_at t f).position s a

-- the scope of a frame was opened by the instance
abbrev pub IsOpener : Table → ℕ → Instance → Type 0
IsOpener t g i = (p : Position) × ((scope_at t g).position ≡ step_of i ∷ p)
