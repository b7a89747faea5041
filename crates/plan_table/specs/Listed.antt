-- What the resources that are listed by the code are.
use Rattle.std.specs.Prelude.{option_map}
use Rattle.template_tree.specs.View.{body_tree}
use Rattle.plan_filling.specs.Resources as cells
use Rattle.plan_filling.specs.Resources.{Above}
use Rattle.plan_table.specs.declared.listed.Listed.{Listed}
use Rattle.plan_table.specs.declared.listed.Parent.{Parent}

abbrev pub above_of : Parent → Above
above_of p = record { number = p.number; type = p.kind }

abbrev pub listed_of : Listed → cells.Listed
listed_of l = record {
  declaration = l.declaration.now;
  content = body_tree l.body.now;
  type = l.kind;
  above = option_map above_of l.above;
}
