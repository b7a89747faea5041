-- JSON of a template in whose expressions numbers are of 64 bits.
use Rattle.arm_expr.specs.Print.{HasInts}
use Rattle.emitted_trees.specs.Templates.{TemplateTree, TemplateItems, TemplateMembers, TemplateValue}
use Rattle.emitted_trees.specs.Templates as t

abbrev mutual
  pub TreeHasInts : TemplateTree → Type 0
  TreeHasInts (t.literal v) = Unit {0}
  TreeHasInts (t.expression e) = HasInts e
  TreeHasInts (t.array es) = ItemsHaveInts es
  TreeHasInts (t.object ms) = MembersHaveInts ms

  pub ItemsHaveInts : TemplateItems → Type 0
  ItemsHaveInts t.no_item = Unit {0}
  ItemsHaveInts (t.item e es) = TreeHasInts e × ItemsHaveInts es

  pub MembersHaveInts : TemplateMembers → Type 0
  MembersHaveInts t.no_member = Unit {0}
  MembersHaveInts (t.member name v ms) = ContentHasInts v × MembersHaveInts ms

  pub ContentHasInts : TemplateValue → Type 0
  ContentHasInts (t.plain e) = TreeHasInts e
  ContentHasInts (t.each count input) = HasInts count × TreeHasInts input
