-- The outputs of a file in source order.
use Rattle.std.specs.Prelude.{ℕ, List, [], ◌∷◌, ◌++◌, map, Option, Some, None, option_to_list, encode_utf8_all}
use Rattle.bicep_tree.specs.declared.leaf.Name.{Name}
use Rattle.bicep_tree.specs.Tree.{StatementTree, FileTree}
use Rattle.bicep_tree.specs.Tree as tree
use Rattle.bicep_names.specs.Scope.{OutputNames}

-- a name: its offset and its characters
abbrev pub Named : Type 0
Named = ℕ × List ℕ

abbrev pub named : Name → Named
named n = (n.at, n.text)

-- the output that a statement declares
abbrev pub output_of : StatementTree → Option Named
output_of (tree.statement ds (tree.metadata at n e)) = None
output_of (tree.statement ds (tree.target_scope at e)) = None
output_of (tree.statement ds (tree.param at n t)) = None
output_of (tree.statement ds (tree.param_with at n t e)) = None
output_of (tree.statement ds (tree.var at n v)) = None
output_of (tree.statement ds (tree.output at n t v)) = Some (named n)
output_of (tree.statement ds (tree.a_resource r)) = None
output_of (tree.statement ds (tree.a_module at n q b)) = None

-- the outputs of a file
abbrev pub outputs_of : FileTree → List Named
outputs_of [] = []
outputs_of (s ∷ ss) = option_to_list (output_of s) ++ outputs_of ss

-- what `Outputs` of `bicep_names` has of an output: the bytes of its name
abbrev pub output_bytes : Named → List ℕ
output_bytes n = encode_utf8_all n.1

abbrev pub looked_up_outputs : List Named → OutputNames
looked_up_outputs ns = map output_bytes ns
