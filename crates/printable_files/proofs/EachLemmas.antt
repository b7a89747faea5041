-- JSON whose expressions have names and numbers of the grammar.
use Rattle.emitted_trees.specs.Templates.{TemplateTree, TemplateItems, TemplateMembers, TemplateValue}
use Rattle.emitted_trees.specs.Templates as t
use Rattle.measured_trees.specs.Limits.{IsPrintable}
use Rattle.tree_building.specs.Each.{Each, EachOfItems, EachOfMembers, EachOfValue}
use Rattle.tree_names.specs.Names.{TreeHasNames, ItemsHaveNames, MembersHaveNames, ContentHasNames}
use Rattle.emitted_numbers.specs.Trees.{TreeHasInts, ItemsHaveInts, MembersHaveInts, ContentHasInts}

mutual
  pub each_tree : (e : TemplateTree) → TreeHasNames e → TreeHasInts e → Each IsPrintable e
  each_tree (t.literal v) h g = tt
  each_tree (t.expression e) h g = (h, g)
  each_tree (t.array es) h g = each_item es h g
  each_tree (t.object ms) h g = each_member ms h g

  pub each_item : (es : TemplateItems) → ItemsHaveNames es → ItemsHaveInts es → EachOfItems IsPrintable es
  each_item t.no_item h g = tt
  each_item (t.item e es) h g = (each_tree e h.0 g.0, each_item es h.1 g.1)

  pub each_member : (ms : TemplateMembers) → MembersHaveNames ms → MembersHaveInts ms
      → EachOfMembers IsPrintable ms
  each_member t.no_member h g = tt
  each_member (t.member name v ms) h g = (each_value v h.0 g.0, each_member ms h.1 g.1)

  pub each_value : (v : TemplateValue) → ContentHasNames v → ContentHasInts v → EachOfValue IsPrintable v
  each_value (t.plain e) h g = each_tree e h g
  each_value (t.each count input) h g = ((h.0, g.0), each_tree input h.1 g.1)
