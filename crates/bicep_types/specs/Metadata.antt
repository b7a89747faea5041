-- The value of `metadata` is a literal.
use Rattle.std.specs.Prelude.{ℕ, [], ◌∷◌, Option, Some, None, if◌then◌else◌}
use Rattle.bicep_tree.specs.Tree.{Tree, StatementTree, FileTree}
use Rattle.bicep_tree.specs.Tree as tree
use Rattle.bicep_tree.specs.Offset.{offset}
use Rattle.bicep_decorators.specs.Literals.{is_literal}
use Rattle.foundation.specs.Options.{or_else}

-- an expression that is no literal, by its offset
abbrev pub no_literal : Tree → Option ℕ
no_literal e = if is_literal e then None else Some (offset e)

-- the value of the metadata that a statement declares, where it is no literal
abbrev pub bad_value : StatementTree → Option ℕ
bad_value (tree.statement ds (tree.metadata at n e)) = no_literal e
bad_value (tree.statement ds (tree.target_scope at e)) = None
bad_value (tree.statement ds (tree.param at n t)) = None
bad_value (tree.statement ds (tree.param_with at n t e)) = None
bad_value (tree.statement ds (tree.var at n v)) = None
bad_value (tree.statement ds (tree.output at n t v)) = None
bad_value (tree.statement ds (tree.a_resource r)) = None
bad_value (tree.statement ds (tree.a_module at n q b)) = None

-- the first value of metadata of a file that is no literal
abbrev pub bad_metadata : FileTree → Option ℕ
bad_metadata [] = None
bad_metadata (s ∷ ss) = or_else (bad_value s) (bad_metadata ss)
