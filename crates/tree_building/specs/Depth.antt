-- How deep the JSON nests that is written for a tree of a template, at most.
use Rattle.std.specs.Prelude.{ℕ, suc, max}
use Rattle.emitted_trees.specs.Templates.{TemplateTree, TemplateItems, TemplateMembers, TemplateValue}
use Rattle.emitted_trees.specs.Templates as t

-- a literal and an expression 0, an array and an object one more than the deepest part. A loop is an object in the
-- array `copy`
abbrev mutual
  pub depth : TemplateTree → ℕ
  depth (t.literal v) = 0
  depth (t.expression e) = 0
  depth (t.array es) = suc (items_depth es)
  depth (t.object ms) = suc (members_depth ms)

  pub items_depth : TemplateItems → ℕ
  items_depth t.no_item = 0
  items_depth (t.item e es) = max (depth e) (items_depth es)

  pub members_depth : TemplateMembers → ℕ
  members_depth t.no_member = 0
  members_depth (t.member name v ms) = max (value_depth v) (members_depth ms)

  pub value_depth : TemplateValue → ℕ
  value_depth (t.plain e) = depth e
  value_depth (t.each c e) = suc (suc (depth e))
