-- The types of the parameters of a file.
use Rattle.std.specs.Prelude.{ℕ, List, [], ◌∷◌, Option, Some, None, if◌then◌else◌}
use Rattle.arm_value.specs.Look.{is_same_folded}
use Rattle.bicep_tree.specs.declared.leaf.TypeName.{TypeName}
use Rattle.bicep_tree.specs.Tree.{DeclarationTree, StatementTree, FileTree}
use Rattle.bicep_tree.specs.Tree as tree
use Rattle.bicep_signatures.specs.declared.kinds.Kinds.{Kinds}
use Rattle.bicep_signatures.specs.declared.kinds.Kinds.TheVariants as k
use Rattle.bicep_type_faults.specs.Places.{kinds_of}

-- the type of the parameter of that name, if a declaration is one, whatever the case of its ASCII letters
abbrev pub named_by : List ℕ → DeclarationTree → Option TypeName
named_by name (tree.metadata at n e) = None
named_by name (tree.target_scope at e) = None
named_by name (tree.param at n t) = if is_same_folded name n.text then Some t else None
named_by name (tree.param_with at n t e) = if is_same_folded name n.text then Some t else None
named_by name (tree.var at n v) = None
named_by name (tree.output at n t v) = None
named_by name (tree.a_resource r) = None
named_by name (tree.a_module at n q b) = None

abbrev pub declared_in : StatementTree → DeclarationTree
declared_in (tree.statement ds d) = d

abbrev pub or_else : Option TypeName → Option TypeName → Option TypeName
or_else (Some t) o = Some t
or_else None o = o

-- the type of the first parameter of that name of a file
abbrev pub parameter_type : List ℕ → FileTree → Option TypeName
parameter_type name [] = None
parameter_type name (s ∷ ss) = or_else (named_by name (declared_in s)) (parameter_type name ss)

abbrev pub kinds_by : Option TypeName → Kinds
kinds_by (Some t) = kinds_of t
kinds_by None = k.Anything

-- the kinds of values of the parameter of that name; all where the file has no such parameter
abbrev pub parameter_kinds : Option FileTree → List ℕ → Kinds
parameter_kinds None name = k.Anything
parameter_kinds (Some f) name = kinds_by (parameter_type name f)
