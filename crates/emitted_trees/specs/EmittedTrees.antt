-- What Bicep values become in a template outside of expressions: the values of variables, defaults, outputs, fields of
-- resources and arguments of modules (Microsoft Learn, "Property iteration in ARM templates").
use Rattle.std.specs.Prelude.{ℕ, ℤ, pos, ◌-ℤ◌, ◌||◌, Bool, false, List, ◌∷◌, Option, Some, None, codes}
use Rattle.std.specs.Prelude.{option_map, if◌then◌else◌}
use Rattle.function_numbers.specs.Numbers.{within}
use Rattle.arm_expr.specs.Brackets.{is_copy}
use Rattle.arm_expr.specs.Tree.{Tree, text, call}
use Rattle.arm_expr.specs.Tree as tree
use Rattle.bicep_tree.specs.declared.leaf.Literal.{Literal}
use Rattle.bicep_tree.specs.declared.leaf.Literal.TheVariants as l
use Rattle.bicep_tree.specs.declared.leaf.Prefix.{Prefix}
use Rattle.bicep_tree.specs.declared.leaf.Prefix.TheVariants as prefix
use Rattle.bicep_emission.specs.Source.{SourceTree, SourceTrees, PropertyTrees, ValueTree}
use Rattle.bicep_emission.specs.Source as s
use Rattle.bicep_emission.specs.Files.{SourceFile}
use Rattle.bicep_emission.specs.Emitted.{Frame, Scope, one, element, emitted}
use Rattle.emitted_trees.specs.Templates.{TemplateTree, TemplateItems, TemplateMembers, TemplateValue}
use Rattle.emitted_trees.specs.Templates as t

-- ---- literals

-- the number with a `-` before it, where it has 64 bits
abbrev pub negated : ℤ → Option ℤ
negated z = within (pos 0 -ℤ z)

-- the literal that an operator before an expression makes: a number with a `-`
abbrev pub signed : Prefix → SourceTree → Option Literal
signed prefix.Negate (s.literal at (l.Number z)) = option_map l.Number (negated z)
signed p e = None

-- a literal, or else an expression
abbrev pub literal_or : Option Literal → Tree → TemplateTree
literal_or (Some v) e = t.literal v
literal_or None e = t.expression e

-- ---- loops

-- the index of the loop of a name, or of the loop of a resource, a module or an output
abbrev pub copy_index : Option (List ℕ) → Tree
copy_index None = call (codes "copyIndex") tree.none
copy_index (Some name) = call (codes "copyIndex") (one (text name))

-- how often a loop runs over a value
abbrev pub count_of : Tree → Tree
count_of xs = call (codes "length") (one xs)

-- ---- objects

-- whether a member is named as the member by which templates state loops
abbrev pub has_copy : PropertyTrees → Bool
has_copy s.no_property = false
has_copy (s.property at name v ps) = is_copy name || has_copy ps

module _ (file : SourceFile) (files : List SourceFile) (sc : Scope) where
  abbrev expressed : SourceTree → List Frame → TemplateTree
  expressed e fs = t.expression (emitted file files sc e fs)

  abbrev mutual
    -- literals, objects and arrays are JSON, and all else is expressions. So is an object with a member `copy`, which
    -- would state loops
    pub tree_of : SourceTree → List Frame → TemplateTree
    tree_of (s.name at x) fs = expressed (s.name at x) fs
    tree_of (s.literal at v) fs = t.literal v
    tree_of (s.interpolated at first ps) fs = expressed (s.interpolated at first ps) fs
    tree_of (s.object at ps) fs =
        if has_copy ps then expressed (s.object at ps) fs else t.object (members_of ps fs)
    tree_of (s.array at es) fs = t.array (items_of es fs)
    tree_of (s.call at name es) fs = expressed (s.call at name es) fs
    tree_of (s.instance r) fs = expressed (s.instance r) fs
    tree_of (s.field r at x) fs = expressed (s.field r at x) fs
    tree_of (s.output r at k) fs = expressed (s.output r at k) fs
    tree_of (s.member e k n) fs = expressed (s.member e k n) fs
    tree_of (s.index e k i) fs = expressed (s.index e k i) fs
    tree_of (s.prefixed at p e) fs = literal_or (signed p e) (emitted file files sc (s.prefixed at p e) fs)
    tree_of (s.binary o x y) fs = expressed (s.binary o x y) fs
    tree_of (s.conditional c x y) fs = expressed (s.conditional c x y) fs

    pub items_of : SourceTrees → List Frame → TemplateItems
    items_of s.none fs = t.no_item
    items_of (s.more e es) fs = t.item (tree_of e fs) (items_of es fs)

    pub members_of : PropertyTrees → List Frame → TemplateMembers
    members_of s.no_property fs = t.no_member
    members_of (s.property at name v ps) fs = t.member name (value_of (Some name) v fs) (members_of ps fs)

    -- the value of a member, a variable or an output. The loop of a member and that of a variable have its name
    pub value_of : Option (List ℕ) → ValueTree → List Frame → TemplateValue
    value_of name (s.plain e) fs = t.plain (tree_of e fs)
    value_of name (s.each (s.loop at xs) e) fs =
        t.each (count_of (emitted file files sc xs fs))
        (tree_of e (element (emitted file files sc xs fs) (copy_index name) ∷ fs))
