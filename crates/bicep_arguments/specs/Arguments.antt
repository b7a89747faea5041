-- The arguments of modules.
use Rattle.std.specs.Prelude.{ℕ, Bool, not, false, List, [], ◌∷◌, ◌++◌, ◌||◌, Option, Some, None, option_to_list}
use Rattle.std.specs.Prelude.{slice_get, bytes_eq, codes, if◌then◌else◌}
use Rattle.name_set.specs.Names.{is_named}
use Rattle.bicep_tree.specs.Offset.{label_offset}
use Rattle.bicep_tree.specs.Symbol.{label_text}
use Rattle.bicep_tree.specs.Tree.{Tree, MemberTree, MemberTrees, ValueTree, BodyTree}
use Rattle.bicep_tree.specs.Tree.{DeclarationTree, FileTree}
use Rattle.bicep_tree.specs.Tree as tree
use Rattle.bicep_arguments.specs.Parameters.{FileParameters, declared_by}
use Rattle.bicep_arguments.specs.declared.fault.ArgumentFault.{ArgumentFault}
use Rattle.bicep_arguments.specs.declared.fault.ArgumentFault.TheVariants as fault
use Rattle.bicep_tree.specs.Declarations.{object_members, body_members}

-- ---- which arguments a module has

-- the members of the object that an expression is, parentheses left out
abbrev pub object_in : Tree → Option MemberTrees
object_in (tree.object o) = Some (object_members o)
object_in (tree.parentheses at e) = object_in e
object_in e = None

abbrev pub object_of : ValueTree → Option MemberTrees
object_of (tree.plain e) = object_in e
object_of (tree.each l e) = None

-- the value of a field `params`
abbrev pub params_of : MemberTree → Option ValueTree
params_of (tree.property l v) = if bytes_eq (label_text l) (codes "params") then Some v else None
params_of (tree.child ds r) = None

abbrev pub first_value : Option ValueTree → Option ValueTree → Option ValueTree
first_value (Some v) o = Some v
first_value None o = o

-- the value of the first field `params`
abbrev pub params_in : MemberTrees → Option ValueTree
params_in tree.no_member = None
params_in (tree.and_member m ms) = first_value (params_of m) (params_in ms)

-- without `params` there is no argument; of a value that is no object nothing is said here
abbrev pub arguments_by : Option ValueTree → Option MemberTrees
arguments_by None = Some tree.no_member
arguments_by (Some v) = object_of v

-- the arguments in the body of a module
abbrev pub arguments_of : BodyTree → Option MemberTrees
arguments_of b = arguments_by (params_in (body_members b))

-- ---- which arguments are wrong

-- the offset of an argument whose name is none of these, after ASCII case folding
abbrev pub extra_of : List (List ℕ) → MemberTree → Option ℕ
extra_of names (tree.property l v) = if is_named names (label_text l) then None else Some (label_offset l)
extra_of names (tree.child ds r) = None

abbrev pub first_offset : Option ℕ → Option ℕ → Option ℕ
first_offset (Some at) o = Some at
first_offset None o = o

-- the offset of the first of these
abbrev pub extra_in : List (List ℕ) → MemberTrees → Option ℕ
extra_in names tree.no_member = None
extra_in names (tree.and_member m ms) = first_offset (extra_of names m) (extra_in names ms)

-- these names, and then that of an argument
abbrev pub with_argument : List (List ℕ) → MemberTree → List (List ℕ)
with_argument before (tree.property l v) = before ++ label_text l ∷ []
with_argument before (tree.child ds r) = before

abbrev pub given_after : List (List ℕ) → MemberTrees → List (List ℕ)
given_after before tree.no_member = before
given_after before (tree.and_member m ms) = given_after (with_argument before m) ms

-- whether one of the required names is not given, after ASCII case folding
abbrev pub lacks_one : List (List ℕ) → List (List ℕ) → Bool
lacks_one given [] = false
lacks_one given (name ∷ names) = not (is_named given name) || lacks_one given names

abbrev pub missing_at : ℕ → List (List ℕ) → List (List ℕ) → Option ArgumentFault
missing_at at given required = if lacks_one given required then Some (fault.Missing at) else None

abbrev pub extra_or : Option ℕ → Option ArgumentFault → Option ArgumentFault
extra_or (Some at) o = Some (fault.Extra at)
extra_or None o = o

-- the fault of these arguments for a file of these parameters, of a module whose name is at that offset
abbrev pub bad_arguments : FileParameters → ℕ → MemberTrees → Option ArgumentFault
bad_arguments p at ms = extra_or (extra_in p.names ms) (missing_at at (given_after [] ms) p.required)

abbrev pub bad_given : FileParameters → ℕ → Option MemberTrees → Option ArgumentFault
bad_given p at None = None
bad_given p at (Some ms) = bad_arguments p at ms

-- ---- the modules of a file

-- a module: the offset of its name, and its body
abbrev pub ModuleTree : Type 0
ModuleTree = ℕ × BodyTree

abbrev pub module_of : DeclarationTree → Option ModuleTree
module_of (tree.metadata at n e) = None
module_of (tree.target_scope at e) = None
module_of (tree.param at n t) = None
module_of (tree.param_with at n t e) = None
module_of (tree.var at n v) = None
module_of (tree.output at n t v) = None
module_of (tree.a_resource r) = None
module_of (tree.a_module at n q b) = Some (n.at, b)

-- the modules of a file in source order
abbrev pub modules_of : FileTree → List ModuleTree
modules_of [] = []
modules_of (s ∷ ss) = option_to_list (module_of (declared_by s)) ++ modules_of ss

abbrev pub first_of : List ℕ → Option ℕ
first_of [] = None
first_of (n ∷ ns) = Some n

abbrev pub rest_of : List ℕ → List ℕ
rest_of [] = []
rest_of (n ∷ ns) = ns

abbrev pub parameters_at : List FileParameters → Option ℕ → Option FileParameters
parameters_at ps None = None
parameters_at ps (Some n) = slice_get ps n

abbrev pub bad_module : Option FileParameters → ModuleTree → Option ArgumentFault
bad_module None m = None
bad_module (Some p) m = bad_given p m.0 (arguments_of m.1)

abbrev pub or_else : Option ArgumentFault → Option ArgumentFault → Option ArgumentFault
or_else (Some f) o = Some f
or_else None o = o

-- the first fault of the arguments of modules, of which each has the file of the next number
abbrev pub bad_modules : List FileParameters → List ℕ → List ModuleTree → Option ArgumentFault
bad_modules ps ns [] = None
bad_modules ps ns (m ∷ ms) = or_else (bad_module (parameters_at ps (first_of ns)) m) (bad_modules ps (rest_of ns) ms)

-- the first fault of the arguments of the modules of a file, which have the files of these numbers, in a program whose
-- files have these parameters
abbrev pub bad_argument : List FileParameters → List ℕ → FileTree → Option ArgumentFault
bad_argument ps ns f = bad_modules ps ns (modules_of f)
