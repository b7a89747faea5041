-- The parameters of a file.
use Rattle.std.specs.Prelude.{ℕ, List, [], ◌∷◌, ◌++◌, Option, Some, None, option_to_list}
use Rattle.bicep_tree.specs.Tree.{DeclarationTree, StatementTree, FileTree}
use Rattle.bicep_tree.specs.Tree as tree

-- the name of the parameter that a declaration gives
abbrev pub parameter_of : DeclarationTree → Option (List ℕ)
parameter_of (tree.metadata at n e) = None
parameter_of (tree.target_scope at e) = None
parameter_of (tree.param at n t) = Some n.text
parameter_of (tree.param_with at n t e) = Some n.text
parameter_of (tree.var at n v) = None
parameter_of (tree.output at n t v) = None
parameter_of (tree.a_resource r) = None
parameter_of (tree.a_module at n q b) = None

-- the same, where it has no default
abbrev pub required_of : DeclarationTree → Option (List ℕ)
required_of (tree.metadata at n e) = None
required_of (tree.target_scope at e) = None
required_of (tree.param at n t) = Some n.text
required_of (tree.param_with at n t e) = None
required_of (tree.var at n v) = None
required_of (tree.output at n t v) = None
required_of (tree.a_resource r) = None
required_of (tree.a_module at n q b) = None

abbrev pub declared_by : StatementTree → DeclarationTree
declared_by (tree.statement ds d) = d

-- the names of the parameters of a file
abbrev pub parameters_of : FileTree → List (List ℕ)
parameters_of [] = []
parameters_of (s ∷ ss) = option_to_list (parameter_of (declared_by s)) ++ parameters_of ss

-- those of the parameters that have no default
abbrev pub all_required : FileTree → List (List ℕ)
all_required [] = []
all_required (s ∷ ss) = option_to_list (required_of (declared_by s)) ++ all_required ss

-- the names of all parameters of a file, and of those that have no default
pub record FileParameters : Type 0 where
  pub names : List (List ℕ)
  pub required : List (List ℕ)

abbrev pub file_parameters : FileTree → FileParameters
file_parameters f = record { names = parameters_of f; required = all_required f }
