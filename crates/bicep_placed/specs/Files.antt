-- What is misplaced in a file by what its names stand for.
use Rattle.std.specs.Prelude.{ℕ, List, [], ◌∷◌, Option, Some, None, slice_get, bytes_eq, codes, if◌then◌else◌}
use Rattle.bicep_tree.specs.declared.leaf.Quoted.{Quoted}
use Rattle.bicep_resolved.specs.Place.{value_offset}
use Rattle.bicep_resolved.specs.Source.{PropertyTrees, ValueTree}
use Rattle.bicep_resolved.specs.Source as s
use Rattle.bicep_names.specs.declared.kind.Kind.{Kind}
use Rattle.bicep_declared.specs.Declarations.{DeclaredTree}
use Rattle.bicep_declared.specs.Declarations as d
use Rattle.bicep_placed.specs.Defaults.{mention_in}
use Rattle.bicep_placed.specs.Links.{bad_depends_on, parent_of}
use Rattle.bicep_placed.specs.Loops.{loop_in_value}
use Rattle.bicep_placed.specs.Kinds.{kind_in, known, is_child, whole_kinds}
use Rattle.foundation.specs.Options.{or_else}

-- the field `dependsOn`
abbrev pub bad_dependent : List ℕ → ValueTree → Option ℕ
bad_dependent name v = if bytes_eq name (codes "dependsOn") then bad_depends_on v else None

abbrev pub bad_dependents : PropertyTrees → Option ℕ
bad_dependents s.no_property = None
bad_dependents (s.property at name v ps) = or_else (bad_dependent name v) (bad_dependents ps)

-- the field `name` of a resource or a module: no for-expression is in its value
abbrev pub bad_name : List ℕ → ValueTree → Option ℕ
bad_name name v = if bytes_eq name (codes "name") then loop_in_value v else None

abbrev pub bad_names : PropertyTrees → Option ℕ
bad_names s.no_property = None
bad_names (s.property at name v ps) = or_else (bad_name name v) (bad_names ps)

-- the fields of a module, and those of a resource beside `parent`
abbrev pub bad_fields : PropertyTrees → Option ℕ
bad_fields ps = or_else (bad_names ps) (bad_dependents ps)

-- a parent is a resource whose type is that of the child without its last segment
abbrev pub bad_parent_by : List (List ℕ) → Quoted → ℕ → Option ℕ → Option ℕ
bad_parent_by kinds q at None = Some at
bad_parent_by kinds q at (Some n) =
    if is_child (known (slice_get kinds n)) (kind_in q.text) then None else Some q.at

-- the field `parent`
abbrev pub bad_parent : List (List ℕ) → Quoted → List ℕ → ValueTree → Option ℕ
bad_parent kinds q name v =
    if bytes_eq name (codes "parent") then bad_parent_by kinds q (value_offset v) (parent_of v) else None

abbrev pub bad_parents : List (List ℕ) → Quoted → PropertyTrees → Option ℕ
bad_parents kinds q s.no_property = None
bad_parents kinds q (s.property at name v ps) = or_else (bad_parent kinds q name v) (bad_parents kinds q ps)

abbrev pub bad_declaration : List (List ℕ) → DeclaredTree → Option ℕ
bad_declaration kinds (d.parameter at t) = None
bad_declaration kinds (d.parameter_with at t e) = mention_in e
bad_declaration kinds (d.variable at v) = None
bad_declaration kinds (d.a_resource at q existing b) = or_else (bad_parents kinds q b.fields) (bad_fields b.fields)
bad_declaration kinds (d.a_module at b) = bad_fields b.fields

abbrev pub bad_declarations : List (List ℕ) → List DeclaredTree → Option ℕ
bad_declarations kinds [] = None
bad_declarations kinds (x ∷ xs) = or_else (bad_declaration kinds x) (bad_declarations kinds xs)

-- the first thing of a file that may not be where it is, by what names stand for; the symbols are of these kinds
abbrev pub misplaced_link : List Kind → List DeclaredTree → Option ℕ
misplaced_link kinds ds = bad_declarations (whole_kinds kinds ds) ds
