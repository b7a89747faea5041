-- The parts of a file that have values where it is deployed, and the kinds of values that their places take.
use Rattle.std.specs.Prelude.{ℕ, List, [], ◌∷◌, ◌++◌, Option, Some, None, bytes_eq, codes, if◌then◌else◌}
use Rattle.bicep_tree.specs.Tree.{FileTree}
use Rattle.bicep_resolved.specs.Source.{SourceTree, SourceTrees, ReachTree, PropertyTrees, ValueTree, LoopTree}
use Rattle.bicep_resolved.specs.Source as s
use Rattle.bicep_declared.specs.Declarations.{BodyTree, DeclaredTree, OutputTree}
use Rattle.bicep_declared.specs.Declarations as d
use Rattle.bicep_signatures.specs.declared.kinds.Kinds.{Kinds}
use Rattle.bicep_signatures.specs.declared.kinds.Kinds.TheVariants as k
use Rattle.bicep_type_faults.specs.Places.{kinds_of}
use Rattle.bicep_type_faults.specs.Parameters.{parameter_kinds}

-- a value at a place that takes these kinds, or a resource or a module to which another is linked
pub data Part : Type 0 where
  valued : Kinds → ValueTree → Part
  linked : ReachTree → Part

-- what a resource or a module runs over, and its condition
abbrev pub loop_parts : Option LoopTree → List Part
loop_parts None = []
loop_parts (Some (s.loop at xs)) = valued k.Array (s.plain xs) ∷ []

abbrev pub condition_parts : Option SourceTree → List Part
condition_parts None = []
condition_parts (Some e) = valued k.Bool (s.plain e) ∷ []

-- ---- links

-- an expression that may be a resource or a module
abbrev pub linked_part : SourceTree → Part
linked_part (s.instance r) = linked r
linked_part e = valued k.Anything (s.plain e)

abbrev pub linked_parts : SourceTrees → List Part
linked_parts s.none = []
linked_parts (s.more e es) = linked_part e ∷ linked_parts es

-- the value of `parent`
abbrev pub parent_parts : ValueTree → List Part
parent_parts (s.plain e) = linked_part e ∷ []
parent_parts (s.each l e) = valued k.Anything (s.each l e) ∷ []

abbrev pub links : SourceTree → List Part
links (s.array at es) = linked_parts es
links e = valued k.Anything (s.plain e) ∷ []

-- the value of `dependsOn`
abbrev pub dependent_parts : ValueTree → List Part
dependent_parts (s.plain e) = links e
dependent_parts (s.each l e) = valued k.Anything (s.each l e) ∷ []

-- ---- fields

-- a field of a resource
unfoldable pub resource_field_parts : List ℕ → ValueTree → List Part
resource_field_parts name v = if bytes_eq name (codes "parent") then parent_parts v else
    (if bytes_eq name (codes "dependsOn") then dependent_parts v else (valued k.Anything v ∷ []))

abbrev pub resource_parts : PropertyTrees → List Part
resource_parts s.no_property = []
resource_parts (s.property at name v ps) = resource_field_parts name v ++ resource_parts ps

-- the arguments of a module, whose file is the one that is given: each is at a place of its parameter
abbrev pub argument_parts : Option FileTree → PropertyTrees → List Part
argument_parts file s.no_property = []
argument_parts file (s.property at name v ps) = valued (parameter_kinds file name) v ∷ argument_parts file ps

abbrev pub braces_parts : Option FileTree → SourceTree → List Part
braces_parts file (s.object at ps) = argument_parts file ps
braces_parts file e = []

-- the value of `params`
abbrev pub params_parts : Option FileTree → ValueTree → List Part
params_parts file (s.plain e) = braces_parts file e
params_parts file (s.each l e) = []

-- a field of a module
unfoldable pub module_field_parts : Option FileTree → List ℕ → ValueTree → List Part
module_field_parts file name v = if bytes_eq name (codes "params") then params_parts file v else
    (if bytes_eq name (codes "dependsOn") then dependent_parts v else (valued k.Anything v ∷ []))

abbrev pub module_parts : Option FileTree → PropertyTrees → List Part
module_parts file s.no_property = []
module_parts file (s.property at name v ps) = module_field_parts file name v ++ module_parts file ps

-- ---- declarations

abbrev pub body_parts : BodyTree → List Part → List Part
body_parts b fields = loop_parts b.each ++ (condition_parts b.condition ++ fields)

-- a declaration; of a module the file is the one that is given
abbrev pub declaration_parts : Option FileTree → DeclaredTree → List Part
declaration_parts file (d.parameter at t) = []
declaration_parts file (d.parameter_with at t e) = valued (kinds_of t) (s.plain e) ∷ []
declaration_parts file (d.variable at v) = valued k.Anything v ∷ []
declaration_parts file (d.a_resource at q existing b) = body_parts b (resource_parts b.fields)
declaration_parts file (d.a_module at b) = body_parts b (module_parts file b.fields)

abbrev pub output_part : OutputTree → Part
output_part o = valued (kinds_of o.kind) o.value
