-- That the parts of a file's declarations fit their places, or the place of the first that does not.
use Rattle.std.specs.Prelude.{ℕ, List, [], ◌∷◌, Option, Some, None, Result, Ok, Err, bytes_eq, codes, slice_get}
use Rattle.std.specs.Prelude.{option_map, if◌then◌else◌}
use Rattle.bicep_tree.specs.Tree.{FileTree}
use Rattle.bicep_resolved.specs.Source.{SourceTree, PropertyTrees, ValueTree}
use Rattle.bicep_resolved.specs.Source as s
use Rattle.bicep_resolved.specs.Place.{offset, value_offset}
use Rattle.bicep_names.specs.declared.kind.Kind.{Kind}
use Rattle.bicep_names.specs.declared.kind.Kind.TheVariants as kind
use Rattle.bicep_declared.specs.Declarations.{BodyTree, DeclaredTree, OutputTree, DeclaredFileTree}
use Rattle.bicep_declared.specs.Declarations as d
use Rattle.bicep_program.specs.Program.{ProgramFile}
use Rattle.bicep_typing.specs.Typed.{Typed, Fitting, all_fit, before}
use Rattle.bicep_typing.specs.Names.{Types}
use Rattle.bicep_typing.specs.Typing.{type_of, value_type}
use Rattle.bicep_type_faults.specs.Places.{kinds_of, typed, expression_fits, value_fits, loop_fits, condition_fits}
use Rattle.bicep_type_faults.specs.Places.{parent_fits, dependents_fit}
use Rattle.bicep_type_faults.specs.Parameters.{parameter_kinds}

-- ---- fields

-- a field of a resource
unfoldable pub resource_field_fits : Types → List ℕ → ValueTree → Fitting
resource_field_fits ts name v = if bytes_eq name (codes "parent") then parent_fits ts v else
    (if bytes_eq name (codes "dependsOn") then dependents_fit ts v else typed (value_type ts v))

abbrev pub resource_fields_fit : Types → PropertyTrees → Fitting
resource_fields_fit ts s.no_property = all_fit
resource_fields_fit ts (s.property at name v ps) =
    before (resource_field_fits ts name v) (resource_fields_fit ts ps)

-- each argument is of the type of its parameter; the file of the module is the one that is given
abbrev pub arguments_fit : Types → Option FileTree → PropertyTrees → Fitting
arguments_fit ts file s.no_property = all_fit
arguments_fit ts file (s.property at name v ps) =
    before (value_fits ts (parameter_kinds file name) v) (arguments_fit ts file ps)

abbrev pub braces_fit : Types → Option FileTree → SourceTree → Fitting
braces_fit ts file (s.object at ps) = arguments_fit ts file ps
braces_fit ts file e = Err (offset e)

-- the value of `params`: an object in braces
abbrev pub params_fit : Types → Option FileTree → ValueTree → Fitting
params_fit ts file (s.plain e) = braces_fit ts file e
params_fit ts file (s.each l e) = Err (value_offset (s.each l e))

-- a field of a module
unfoldable pub module_field_fits : Types → Option FileTree → List ℕ → ValueTree → Fitting
module_field_fits ts file name v = if bytes_eq name (codes "params") then params_fit ts file v else
    (if bytes_eq name (codes "dependsOn") then dependents_fit ts v else typed (value_type ts v))

abbrev pub module_fields_fit : Types → Option FileTree → PropertyTrees → Fitting
module_fields_fit ts file s.no_property = all_fit
module_fields_fit ts file (s.property at name v ps) =
    before (module_field_fits ts file name v) (module_fields_fit ts file ps)

-- ---- declarations

-- the loop and the condition of a body, and then its fields
abbrev pub body_fits : Types → BodyTree → Fitting → Fitting
body_fits ts b fields = before (loop_fits ts b.each) (before (condition_fits ts b.condition) fields)

abbrev pub tree_of_file : ProgramFile → FileTree
tree_of_file f = f.tree

-- the file of that number
abbrev pub file_at : List ProgramFile → ℕ → Option FileTree
file_at files n = option_map tree_of_file (slice_get files n)

-- the file of a module, by the kind of its symbol
abbrev pub file_of : List ProgramFile → Kind → Option FileTree
file_of files kind.Parameter = None
file_of files kind.Variable = None
file_of files (kind.Resource inside) = None
file_of files (kind.ResourceLoop inside) = None
file_of files (kind.Module n) = file_at files n
file_of files (kind.ModuleLoop n) = file_at files n

-- a declaration whose symbol is of that kind
abbrev pub declaration_fits : List ProgramFile → Types → Kind → DeclaredTree → Fitting
declaration_fits files ts x (d.parameter at t) = all_fit
declaration_fits files ts x (d.parameter_with at t e) = expression_fits ts (kinds_of t) e
declaration_fits files ts x (d.variable at v) = typed (value_type ts v)
declaration_fits files ts x (d.a_resource at q existing b) = body_fits ts b (resource_fields_fit ts b.fields)
declaration_fits files ts x (d.a_module at b) = body_fits ts b (module_fields_fit ts (file_of files x) b.fields)

abbrev pub declarations_fit : List ProgramFile → Types → List Kind → List DeclaredTree → Fitting
declarations_fit files ts [] ys = all_fit
declarations_fit files ts (x ∷ xs) [] = all_fit
declarations_fit files ts (x ∷ xs) (y ∷ ys) =
    before (declaration_fits files ts x y) (declarations_fit files ts xs ys)

abbrev pub output_fits : Types → OutputTree → Fitting
output_fits ts o = value_fits ts (kinds_of o.kind) o.value

abbrev pub outputs_fit : Types → List OutputTree → Fitting
outputs_fit ts [] = all_fit
outputs_fit ts (o ∷ os) = before (output_fits ts o) (outputs_fit ts os)

-- a file of a program whose files are these, by the kinds of its symbols
unfoldable pub file_fits : List ProgramFile → Types → List Kind → DeclaredFileTree → Fitting
file_fits files ts xs f = before (declarations_fit files ts xs f.declarations) (outputs_fit ts f.outputs)
