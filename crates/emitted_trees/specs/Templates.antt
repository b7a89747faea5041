-- JSON of a template, some texts of which are expressions.
use Rattle.std.specs.Prelude.{ℕ, List}
use Rattle.arm_expr.specs.Tree.{Tree}
use Rattle.bicep_tree.specs.declared.leaf.Literal.{Literal}

mutual
  pub data TemplateTree : Type 0 where
    literal : Literal → TemplateTree
    -- a text that is the expression in brackets
    expression : Tree → TemplateTree
    array : TemplateItems → TemplateTree
    object : TemplateMembers → TemplateTree

  pub data TemplateItems : Type 0 where
    no_item : TemplateItems
    item : TemplateTree → TemplateItems → TemplateItems

  pub data TemplateMembers : Type 0 where
    no_member : TemplateMembers
    -- the name and the value of a member, and the members after it
    member : List ℕ → TemplateValue → TemplateMembers → TemplateMembers

  -- the value of a member, a variable or an output
  pub data TemplateValue : Type 0 where
    plain : TemplateTree → TemplateValue
    -- an array, by a loop: how often it runs, and its input
    each : Tree → TemplateTree → TemplateValue
