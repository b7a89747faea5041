-- What holds of each expression in a tree of a template.
use Rattle.std.specs.Prelude.{◌≤◌, length}
use Rattle.foundation.specs.declared.limits.TheConstants.{MAX_EXPRESSION_CHARACTERS, MAX_EXPRESSION_NESTING}
use Rattle.arm_expr.specs.Print.{printed}
use Rattle.arm_expr.specs.Tree.{Tree, nesting}
use Rattle.emitted_trees.specs.Templates.{TemplateTree, TemplateItems, TemplateMembers, TemplateValue}
use Rattle.emitted_trees.specs.Templates as t

module _ (P : Tree → Type 0) where
  abbrev mutual
    pub Each : TemplateTree → Type 0
    Each (t.literal v) = Unit {0}
    Each (t.expression e) = P e
    Each (t.array es) = EachOfItems es
    Each (t.object ms) = EachOfMembers ms

    pub EachOfItems : TemplateItems → Type 0
    EachOfItems t.no_item = Unit {0}
    EachOfItems (t.item e es) = Each e × EachOfItems es

    pub EachOfMembers : TemplateMembers → Type 0
    EachOfMembers t.no_member = Unit {0}
    EachOfMembers (t.member name v ms) = EachOfValue v × EachOfMembers ms

    pub EachOfValue : TemplateValue → Type 0
    EachOfValue (t.plain e) = Each e
    EachOfValue (t.each c e) = P c × Each e

-- its text in brackets is within the limit of characters, and it within that of nesting
abbrev pub IsSmall : Tree → Type 0
IsSmall e = (length (printed e) ≤ MAX_EXPRESSION_CHARACTERS) × (nesting e ≤ MAX_EXPRESSION_NESTING)

abbrev pub AreSmall : TemplateTree → Type 0
AreSmall e = Each IsSmall e

abbrev pub ItemsAreSmall : TemplateItems → Type 0
ItemsAreSmall es = EachOfItems IsSmall es

abbrev pub MembersAreSmall : TemplateMembers → Type 0
MembersAreSmall ms = EachOfMembers IsSmall ms

abbrev pub ValueIsSmall : TemplateValue → Type 0
ValueIsSmall v = EachOfValue IsSmall v
