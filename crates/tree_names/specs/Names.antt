-- JSON of a template whose expressions have names of the grammar.
use Rattle.arm_expr.specs.Print.{HasNames}
use Rattle.emitted_trees.specs.Templates.{TemplateTree, TemplateItems, TemplateMembers, TemplateValue}
use Rattle.emitted_trees.specs.Templates as t

abbrev mutual
  pub TreeHasNames : TemplateTree → Type 0
  TreeHasNames (t.literal v) = Unit {0}
  TreeHasNames (t.expression e) = HasNames e
  TreeHasNames (t.array es) = ItemsHaveNames es
  TreeHasNames (t.object ms) = MembersHaveNames ms

  pub ItemsHaveNames : TemplateItems → Type 0
  ItemsHaveNames t.no_item = Unit {0}
  ItemsHaveNames (t.item e es) = TreeHasNames e × ItemsHaveNames es

  pub MembersHaveNames : TemplateMembers → Type 0
  MembersHaveNames t.no_member = Unit {0}
  MembersHaveNames (t.member name v ms) = ContentHasNames v × MembersHaveNames ms

  pub ContentHasNames : TemplateValue → Type 0
  ContentHasNames (t.plain e) = TreeHasNames e
  ContentHasNames (t.each count input) = HasNames count × TreeHasNames input
