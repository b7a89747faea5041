-- Values of a template that are what a compiler writes for a tree, an expression, a loop or a condition.
use Rattle.std.specs.Prelude.{◌≡◌, Option, Some, None, codes}
use Rattle.arm_value.specs.Json.{Json}
use Rattle.arm_value.specs.View.{json}
use Rattle.arm_value.specs.declared.value.Value.{Value}
use Rattle.arm_expr.specs.Tree.{Tree, text, call}
use Rattle.arm_expr.specs.Tree as tree
use Rattle.template_parts.specs.declared.content.Content.{Content}
use Rattle.template_parts.specs.declared.content.Content.TheVariants as content
use Rattle.bicep_tree.specs.declared.leaf.Literal.TheVariants as l
use Rattle.emitted_trees.specs.Templates.{TemplateTree, TemplateValue}
use Rattle.emitted_trees.specs.Templates as t
use Rattle.emitted_trees.specs.Written.{tree_json, expression_json, IsWithin, IsWritable}

-- both are there and belong together, or neither is there
abbrev pub AreBoth : {A B : Type 0} → (A → B → Type 0) → Option A → Option B → Type 0
AreBoth r None None = Unit {0}
AreBoth r None (Some b) = ⊥
AreBoth r (Some a) None = ⊥
AreBoth r (Some a) (Some b) = r a b

-- the JSON is that of a tree, whose expressions are within the limits
pub record IsTree (e : TemplateTree) (j : Json) : Type 0 where
  pub is : j ≡ tree_json e
  pub is_within : IsWithin e

-- the JSON is the text of an expression in brackets
pub record IsExpression (e : Tree) (j : Json) : Type 0 where
  pub is : j ≡ expression_json e
  pub is_writable : IsWritable e

-- a value, or a loop
abbrev pub IsContent : TemplateValue → Content → Type 0
IsContent (t.plain e) (content.Value v) = IsTree e (json v)
IsContent (t.plain e) (content.Copy n input) = ⊥
IsContent (t.each c e) (content.Value v) = ⊥
IsContent (t.each c e) (content.Copy n input) = IsExpression c (json n) × IsTree e (json input)

-- a condition. Without one a template has what `true()` gives
abbrev pub IsCondition : Tree → Option Value → Type 0
IsCondition e (Some v) = IsExpression e (json v)
IsCondition e None = e ≡ call (codes "true") tree.none

-- a text is written plain, and all else as an expression
abbrev pub plain_or_expression : Tree → TemplateTree
plain_or_expression (text x) = t.literal (l.Text x)
plain_or_expression e = t.expression e
