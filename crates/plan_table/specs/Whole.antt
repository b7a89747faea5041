-- What a table has.
use Rattle.std.specs.Prelude.{List, map}
use Rattle.template_parameters.specs.Binding.{bound_view}
use Rattle.template_tree.specs.View.{template_tree}
use Rattle.plan_filling.specs.Meaning.{Deployment}
use Rattle.plan_filling.specs.Rows.{Row}
use Rattle.plan_table.specs.declared.table.Table.{Table}
use Rattle.plan_table.specs.Opened.{Opened, opened_of}
use Rattle.plan_table.specs.Lines.{rows_of}
use Rattle.plan_table.specs.Laid.{Laid}

-- what is deployed
abbrev pub whole_of : Table → Deployment
whole_of t = record {
  template = template_tree t.template.now;
  bound = map bound_view t.bound.now;
  place = t.place.now;
}

abbrev pub scopes_of : Table → List Opened
scopes_of t = map opened_of t.frames.items

abbrev pub rows_in : Table → List Row
rows_in t = rows_of (scopes_of t) t.lines.items

abbrev pub IsLaid : Table → Type 0
IsLaid t = Laid (whole_of t) (scopes_of t) t.index t.lines.items
