-- The JSON that is written for a tree of a template, and when its expressions are within the limits.
use Rattle.std.specs.Prelude.{◌≤◌, ℕ, length, true, false, List, [], ◌∷◌, ◌++◌, codes}
use Rattle.foundation.specs.declared.limits.TheConstants.{MAX_EXPRESSION_CHARACTERS, MAX_EXPRESSION_NESTING}
use Rattle.arm_value.specs.Json.{Json, null, bool, int, text, array, Row, no_items, row, Member}
use Rattle.arm_value.specs.Json as json
use Rattle.arm_env.specs.Object.{object_of}
use Rattle.arm_expr.specs.Brackets.{escaped}
use Rattle.arm_expr.specs.Print.{printed, HasNames, HasInts}
use Rattle.arm_expr.specs.Tree.{Tree, nesting}
use Rattle.bicep_tree.specs.declared.leaf.Literal.{Literal}
use Rattle.bicep_tree.specs.declared.leaf.Literal.TheVariants as l
use Rattle.emitted_trees.specs.Templates.{TemplateTree, TemplateItems, TemplateMembers, TemplateValue}
use Rattle.emitted_trees.specs.Templates as t

-- a text in brackets has one `[` more
abbrev pub literal_json : Literal → Json
literal_json (l.Number z) = int z
literal_json (l.Text s) = text (escaped s)
literal_json l.True = bool true
literal_json l.False = bool false
literal_json l.Null = null

-- an expression in brackets
abbrev pub expression_json : Tree → Json
expression_json e = text (printed e)

-- the loop of a name, a count and an input, as a member of an object
abbrev pub loop_json : List ℕ → Tree → Json → Json
loop_json name count input =
    object_of ((codes "name", text name) ∷ (codes "count", expression_json count) ∷ (codes "input", input) ∷ [])

-- the member `copy` of these loops
abbrev pub copy_member : List Json → List Member
copy_member [] = []
copy_member (j ∷ js) = (codes "copy", array (row (j ∷ js))) ∷ []

abbrev mutual
  pub tree_json : TemplateTree → Json
  tree_json (t.literal v) = literal_json v
  tree_json (t.expression e) = expression_json e
  tree_json (t.array es) = array (items_json es)
  tree_json (t.object ms) = object_of (own_members ms ++ copy_member (loops ms))

  pub items_json : TemplateItems → Row
  items_json t.no_item = no_items
  items_json (t.item e es) = json.item (tree_json e) (items_json es)

  -- the members without a loop
  pub own_members : TemplateMembers → List Member
  own_members t.no_member = []
  own_members (t.member name (t.plain e) ms) = (name, tree_json e) ∷ own_members ms
  own_members (t.member name (t.each count input) ms) = own_members ms

  -- the loops of the others
  pub loops : TemplateMembers → List Json
  loops t.no_member = []
  loops (t.member name (t.plain e) ms) = loops ms
  loops (t.member name (t.each count input) ms) = loop_json name count (tree_json input) ∷ loops ms

-- the text of an expression in brackets is within the limits of templates, and its names and numbers are those of their
-- expressions
pub record IsWritable (e : Tree) : Type 0 where
  pub names : HasNames e
  pub ints : HasInts e
  pub is_short : length (printed e) ≤ MAX_EXPRESSION_CHARACTERS
  pub is_flat : nesting e ≤ MAX_EXPRESSION_NESTING

-- each expression in the tree is
abbrev mutual
  pub IsWithin : TemplateTree → Type 0
  IsWithin (t.literal v) = Unit {0}
  IsWithin (t.expression e) = IsWritable e
  IsWithin (t.array es) = AreWithin es
  IsWithin (t.object ms) = MembersAreWithin ms

  pub AreWithin : TemplateItems → Type 0
  AreWithin t.no_item = Unit {0}
  AreWithin (t.item e es) = IsWithin e × AreWithin es

  pub MembersAreWithin : TemplateMembers → Type 0
  MembersAreWithin t.no_member = Unit {0}
  MembersAreWithin (t.member name v ms) = ValueIsWithin v × MembersAreWithin ms

  pub ValueIsWithin : TemplateValue → Type 0
  ValueIsWithin (t.plain e) = IsWithin e
  ValueIsWithin (t.each count input) = IsWritable count × IsWithin input
