-- What is misplaced in a file, before any name is found.
use Rattle.std.specs.Prelude.{ℕ, Bool, false, [], ◌∷◌, Option, Some, None, bytes_eq, codes, if◌then◌else◌}
use Rattle.bicep_tree.specs.declared.leaf.Literal.{Literal}
use Rattle.bicep_tree.specs.declared.leaf.Literal.TheVariants as l
use Rattle.bicep_tree.specs.declared.leaf.Name.{Name}
use Rattle.bicep_tree.specs.Offset.{offset}
use Rattle.bicep_tree.specs.Tree.{Tree, ValueTree, DeclarationTree, StatementTree, FileTree}
use Rattle.bicep_tree.specs.Tree as tree
use Rattle.bicep_misplaced.specs.declared.spot.Owner.TheVariants as owner
use Rattle.bicep_misplaced.specs.declared.spot.Spot.TheVariants as spot
use Rattle.bicep_misplaced.specs.Words.{is_copy}
use Rattle.bicep_misplaced.specs.Expressions.{bad_in}
use Rattle.bicep_misplaced.specs.Resources.{bad_in_decorators, bad_in_resource, bad_in_body}
use Rattle.foundation.specs.Options.{or_else}

abbrev pub is_group_text : Literal → Bool
is_group_text (l.Text t) = bytes_eq t (codes "resourceGroup")
is_group_text v = false

-- the only scope: 'resourceGroup'
abbrev pub is_group : Tree → Bool
is_group (tree.literal at v) = is_group_text v
is_group e = false

abbrev pub bad_scope : Tree → Option ℕ
bad_scope e = if is_group e then None else Some (offset e)

-- a variable is not named `copy`
abbrev pub bad_variable : Name → Option ℕ
bad_variable n = if is_copy n.text then Some n.at else None

-- the value of a variable or an output
abbrev pub bad_in_whole : ValueTree → Option ℕ
bad_in_whole (tree.plain e) = bad_in spot.Outside e
bad_in_whole (tree.each (tree.loop at ns xs) e) = or_else (bad_in spot.Outside xs) (bad_in spot.Outside e)

abbrev pub bad_in_declaration : DeclarationTree → Option ℕ
bad_in_declaration (tree.metadata at n e) = bad_in spot.Outside e
bad_in_declaration (tree.target_scope at e) = bad_scope e
bad_in_declaration (tree.param at n t) = None
bad_in_declaration (tree.param_with at n t e) = bad_in spot.Outside e
bad_in_declaration (tree.var at n v) = or_else (bad_variable n) (bad_in_whole v)
bad_in_declaration (tree.output at n t v) = bad_in_whole v
bad_in_declaration (tree.a_resource r) = bad_in_resource owner.Resource r
bad_in_declaration (tree.a_module at n q b) = bad_in_body owner.Module b

abbrev pub bad_in_statement : StatementTree → Option ℕ
bad_in_statement (tree.statement ds d) = or_else (bad_in_decorators ds) (bad_in_declaration d)

-- the first misplaced thing in a file
abbrev pub misplaced : FileTree → Option ℕ
misplaced [] = None
misplaced (s ∷ ss) = or_else (bad_in_statement s) (misplaced ss)
