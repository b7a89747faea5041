-- What the declarations of a file are, once their names are found, or the first name that means nothing.
use Rattle.std.specs.Prelude.{ℕ, Bool, List, [], ◌∷◌, map, Option, Some, None, option_to_list}
use Rattle.bicep_tree.specs.declared.leaf.LoopNames.{LoopNames}
use Rattle.bicep_tree.specs.declared.leaf.Quoted.{Quoted}
use Rattle.bicep_tree.specs.declared.leaf.TypeName.{TypeName}
use Rattle.bicep_tree.specs.Tree.{ResourceTree, ObjectTree, LoopTree, DeclarationTree, FileTree}
use Rattle.bicep_tree.specs.Tree as tree
use Rattle.bicep_resolved.specs.Source.{SourceTree, PropertyTrees}
use Rattle.bicep_resolved.specs.Source as s
use Rattle.bicep_found.specs.Found.{Found, found, mapped, both, all_found}
use Rattle.bicep_names.specs.Scope.{Scope}
use Rattle.bicep_names.specs.Resolve.{resolved, resolved_members, resolved_value}
use Rattle.bicep_declared.specs.Declarations.{BodyTree, DeclaredTree, parameter, parameter_with, variable, a_resource}
use Rattle.bicep_declared.specs.Declarations.{a_module, OutputTree, DeclaredFileTree}
use Rattle.bicep_declared.specs.Sites.{declarations_of}

-- ---- bodies

abbrev pub plain_body : ℕ → PropertyTrees → BodyTree
plain_body at ps = record { each = None; condition = None; at = at; fields = ps }

abbrev pub body_if : ℕ → SourceTree × PropertyTrees → BodyTree
body_if at p = record { each = None; condition = Some p.0; at = at; fields = p.1 }

abbrev pub body_each : ℕ → ℕ → SourceTree × PropertyTrees → BodyTree
body_each place at p = record { each = Some (s.loop place p.0); condition = None; at = at; fields = p.1 }

abbrev pub body_each_if : ℕ → ℕ → SourceTree × (SourceTree × PropertyTrees) → BodyTree
body_each_if place at p =
    record { each = Some (s.loop place p.0); condition = Some p.1.0; at = at; fields = p.1.1 }

abbrev pub object_at : ObjectTree → ℕ
object_at (tree.braces at ms) = at

abbrev pub loop_at : LoopTree → ℕ
loop_at (tree.loop at ns xs) = at

abbrev pub loop_over : LoopTree → tree.Tree
loop_over (tree.loop at ns xs) = xs

abbrev pub loop_names : LoopTree → LoopNames
loop_names (tree.loop at ns xs) = ns

-- the fields of a body inside loops; resources that are nested in it are declarations of their own
abbrev pub fields_of : Scope → ObjectTree → List LoopNames → Found PropertyTrees
fields_of sc (tree.braces at ms) ls = resolved_members sc ms ls

-- a body; its condition and its fields are inside its loop
abbrev pub body_of : Scope → tree.BodyTree → Found BodyTree
body_of sc (tree.body_plain o) = mapped (plain_body (object_at o)) (fields_of sc o [])
body_of sc (tree.body_if at c o) =
    mapped (body_if (object_at o)) (both (resolved sc c []) (fields_of sc o []))
body_of sc (tree.body_each l o) =
    mapped (body_each (loop_at l) (object_at o))
    (both (resolved sc (loop_over l) []) (fields_of sc o (loop_names l ∷ [])))
body_of sc (tree.body_each_if l at c o) =
    mapped (body_each_if (loop_at l) (object_at o)) (both (resolved sc (loop_over l) [])
    (both (resolved sc c (loop_names l ∷ [])) (fields_of sc o (loop_names l ∷ []))))

-- ---- declarations

abbrev pub some_parameter : ℕ → TypeName → SourceTree → Option DeclaredTree
some_parameter at t x = Some (parameter_with at t x)

abbrev pub some_variable : ℕ → s.ValueTree → Option DeclaredTree
some_variable at x = Some (variable at x)

abbrev pub some_resource : ℕ → Quoted → Bool → BodyTree → Option DeclaredTree
some_resource at q existing y = Some (a_resource at q existing y)

abbrev pub some_module : ℕ → BodyTree → Option DeclaredTree
some_module at y = Some (a_module at y)

abbrev pub resource_of : Scope → ResourceTree → Found (Option DeclaredTree)
resource_of sc (tree.resource at n q x b) = mapped (some_resource n.at q x) (body_of sc b)

-- what a declaration is, where it has a symbol; a nested resource is a declaration of its own, outside all loops
abbrev pub declared : Scope → DeclarationTree → Found (Option DeclaredTree)
declared sc (tree.metadata at n e) = found None
declared sc (tree.target_scope at e) = found None
declared sc (tree.param at n t) = found (Some (parameter n.at t))
declared sc (tree.param_with at n t e) = mapped (some_parameter n.at t) (resolved sc e [])
declared sc (tree.var at n v) = mapped (some_variable n.at) (resolved_value sc v [])
declared sc (tree.output at n t v) = found None
declared sc (tree.a_resource r) = resource_of sc r
declared sc (tree.a_module at n q b) = mapped (some_module n.at) (body_of sc b)

abbrev pub part_declared : Scope → DeclarationTree → Found (List DeclaredTree)
part_declared sc d = mapped option_to_list (declared sc d)

-- the declarations that have a symbol, in the order of the symbols
abbrev pub declared_all : Scope → List DeclarationTree → Found (List DeclaredTree)
declared_all sc ds = all_found (map (part_declared sc) ds)

-- ---- outputs

abbrev pub some_output : ℕ → TypeName → s.ValueTree → Option OutputTree
some_output at t v = Some (record { at = at; kind = t; value = v })

abbrev pub output_declared : Scope → DeclarationTree → Found (Option OutputTree)
output_declared sc (tree.metadata at n e) = found None
output_declared sc (tree.target_scope at e) = found None
output_declared sc (tree.param at n t) = found None
output_declared sc (tree.param_with at n t e) = found None
output_declared sc (tree.var at n v) = found None
output_declared sc (tree.output at n t v) = mapped (some_output n.at t) (resolved_value sc v [])
output_declared sc (tree.a_resource r) = found None
output_declared sc (tree.a_module at n q b) = found None

abbrev pub part_output : Scope → DeclarationTree → Found (List OutputTree)
part_output sc d = mapped option_to_list (output_declared sc d)

abbrev pub outputs_declared : Scope → List DeclarationTree → Found (List OutputTree)
outputs_declared sc ds = all_found (map (part_output sc) ds)

-- ---- files

abbrev pub file : List DeclaredTree × List OutputTree → DeclaredFileTree
file p = record { declarations = p.0; outputs = p.1 }

-- the declarations and the outputs of a file, or the first name in them that means nothing
unfoldable pub declared_file : Scope → FileTree → Found DeclaredFileTree
declared_file sc f =
    mapped file (both (declared_all sc (declarations_of f)) (outputs_declared sc (declarations_of f)))
