-- How much of the limits a tree of a template takes: its longest text of an expression, its deepest expression, and how
-- deep it nests.
use Rattle.std.specs.Prelude.{ℕ, suc, max, length}
use Rattle.arm_expr.specs.Print.{printed}
use Rattle.arm_expr.specs.Tree.{Tree, nesting}
use Rattle.tree_building.specs.Templates.{TemplateTree, TemplateItems, TemplateMembers, TemplateValue}
use Rattle.tree_building.specs.Templates as t
use Rattle.tree_building.specs.Depth as d

-- the greatest number that f has for an expression in a tree; 0 where there is none
module _ (f : Tree → ℕ) where
  abbrev mutual
    pub greatest : TemplateTree → ℕ
    greatest (t.literal v) = 0
    greatest (t.expression e) = f e
    greatest (t.array es) = items_greatest es
    greatest (t.object ms) = members_greatest ms

    pub items_greatest : TemplateItems → ℕ
    items_greatest t.no_item = 0
    items_greatest (t.item e es) = max (greatest e) (items_greatest es)

    pub members_greatest : TemplateMembers → ℕ
    members_greatest t.no_member = 0
    members_greatest (t.member name v ms) = max (value_greatest v) (members_greatest ms)

    pub value_greatest : TemplateValue → ℕ
    value_greatest (t.plain e) = greatest e
    value_greatest (t.each c e) = max (f c) (greatest e)

-- the characters of the text of an expression, with its brackets
abbrev pub text_length : Tree → ℕ
text_length e = length (printed e)

pub record Extremes : Type 0 where
  -- how many characters the longest text of an expression has, with its brackets
  pub longest : ℕ
  -- how deep the deepest expression nests
  pub deepest : ℕ
  -- how deep arrays and objects nest
  pub depth : ℕ

-- what takes nothing
abbrev pub nothing : Extremes
nothing = record { longest = 0; deepest = 0; depth = 0 }

-- what two take together
abbrev pub joined : Extremes → Extremes → Extremes
joined x y = record {
  longest = max x.longest y.longest;
  deepest = max x.deepest y.deepest;
  depth = max x.depth y.depth;
}

-- what an array or an object takes, by what its parts take
abbrev pub enclosed : Extremes → Extremes
enclosed x = record { longest = x.longest; deepest = x.deepest; depth = suc x.depth }

abbrev pub tree_extremes : TemplateTree → Extremes
tree_extremes e = record { longest = greatest text_length e; deepest = greatest nesting e; depth = d.depth e }

abbrev pub items_extremes : TemplateItems → Extremes
items_extremes es = record {
  longest = items_greatest text_length es;
  deepest = items_greatest nesting es;
  depth = d.items_depth es;
}

abbrev pub members_extremes : TemplateMembers → Extremes
members_extremes ms = record {
  longest = members_greatest text_length ms;
  deepest = members_greatest nesting ms;
  depth = d.members_depth ms;
}

abbrev pub value_extremes : TemplateValue → Extremes
value_extremes v = record {
  longest = value_greatest text_length v;
  deepest = value_greatest nesting v;
  depth = d.value_depth v;
}
