-- How much of the limits of templates the template of a file takes, by its declarations.
use Rattle.std.specs.Prelude.{◌≡◌, ℕ, zero, suc, max, length, Bool, true, false, List, [], Option, Some, None, map}
use Rattle.std.specs.Prelude.{slice_index_or, Result, IfOk}
use Rattle.std.specs.declared.alloc.AllocError.{AllocError}
use Rattle.arm_value.specs.Json.{Json, items_nesting, nesting}
use Rattle.arm_value.specs.View.{json}
use Rattle.arm_value.specs.declared.value.Value.{Value}
use Rattle.template_parts.specs.declared.mode.Form.{Form}
use Rattle.template_parts.specs.declared.mode.Form.TheVariants.{One, Two}
use Rattle.template_parts.specs.declared.parameter.Parameter.{Parameter}
use Rattle.bicep_resolved.specs.Source.{SourceTree, ValueTree, LoopTree}
use Rattle.bicep_resolved.specs.Source as source
use Rattle.bicep_declared.specs.Declarations.{BodyTree, DeclaredTree, OutputTree}
use Rattle.bicep_declared.specs.Declarations as d
use Rattle.bicep_declared.specs.View.{declared_tree, output_tree}
use Rattle.bicep_declared.specs.declared.declared.Declared.{Declared}
use Rattle.bicep_declared.specs.declared.declared.DeclaredOutput.{DeclaredOutput}
use Rattle.bicep_meaning.specs.Files.{declaration, symbol_name}
use Rattle.source_needs.specs.Dependencies.{dependencies}
use Rattle.measured_trees.specs.Extremes.{Extremes, nothing, joined, enclosed, tree_extremes, value_extremes}
use Rattle.measured_trees.specs.Measures.{IsOf}
use Rattle.measured_trees.specs.declared.measure.Measure.{Measure}
use Rattle.tree_building.specs.Sight.{tree, value}
use Rattle.emitted_templates.specs.Arguments.{arguments_in, arguments_extremes}
use Rattle.emitted_templates.specs.Elements.{elements_extremes}
use Rattle.emitted_templates.specs.Files.{frames_around}
use Rattle.emitted_templates.specs.Filled.{emission_sight}
use Rattle.emitted_templates.specs.Limits.{head_extremes, resource_extremes}
use Rattle.emitted_templates.specs.Lists.{entry_at, output_at, default_of, rule_at}
use Rattle.emitted_templates.specs.Seen.{Shape, file_in, files_in, whole_in}

-- what the first so many of these take together
abbrev pub over : (ℕ → Extremes) → ℕ → Extremes
over x zero = nothing
over x (suc k) = joined (over x k) (x k)

-- what nests so deep and has no expression
abbrev pub plain : ℕ → Extremes
plain n = record { longest = 0; deepest = 0; depth = n }

-- ---- the rule of a parameter

abbrev pub allowed_depth : Option (List Json) → ℕ
allowed_depth None = 0
allowed_depth (Some js) = suc (items_nesting js)

abbrev pub value_depth : Option Value → ℕ
value_depth None = 0
value_depth (Some v) = nesting (json v)

abbrev pub rule_depth : Option Parameter → ℕ
rule_depth None = 0
rule_depth (Some p) = max (allowed_depth p.allowed_values) (value_depth p.metadata)

-- ---- metadata

-- that of a number
abbrev pub metadata_at : List (Option Value) → ℕ → Option Value
metadata_at ms n = slice_index_or ms n None

-- the member `metadata` of an object
abbrev pub noted : Option Value → Extremes
noted m = enclosed (plain (value_depth m))

-- ---- modules

-- what modules take is known of their numbers
abbrev pub unmeasured : Measure
unmeasured = record { longest = 0; deepest = 0; depth = 0 }

abbrev pub AreOf : (ℕ → Extremes) → List Measure → Type 0
AreOf inner ms = (n : ℕ) → IsOf (inner n) (slice_index_or ms n unmeasured)

-- what is measured of the module of a number
abbrev pub IsInner : List Measure → ℕ → Measure → Type 0
IsInner ms n m = (x : ℕ → Extremes) → AreOf x ms → IsOf (x n) m

-- what is measured by what modules take, or no memory
abbrev pub TakesWith : List Measure → Result Measure AllocError → ((ℕ → Extremes) → Extremes) → Type 0
TakesWith ms r y = (x : ℕ → Extremes) → AreOf x ms → IfOk r (IsOf (y x))

-- the same by what one template takes
abbrev pub TakesAround : Measure → Result Measure AllocError → (Extremes → Extremes) → Type 0
TakesAround m r y = (x : Extremes) → IsOf x m → IfOk r (IsOf (y x))

-- the object of a loop of resources
abbrev pub loop_extremes : Option LoopTree → Extremes
loop_extremes None = nothing
loop_extremes (Some l) = enclosed nothing

-- ---- outputs

-- a value that has one item for each of a list
abbrev pub is_loop : ValueTree → Bool
is_loop (source.plain e) = false
is_loop (source.each l e) = true

-- the object of an output, by what the value of a variable takes. The loop of an output is an object in it; that of a
-- variable is an object in an array
abbrev pub output_object : Bool → Extremes → Extremes
output_object false x = enclosed x
output_object true x = x

module _ (s : Shape) where
  -- ---- declarations and outputs, as they are in memory

  abbrev pub Declares : ℕ → Declared → Type 0
  Declares n c = declaration (file_in s) n ≡ Some (declared_tree c)

  abbrev pub DeclaresVariable : ℕ → ValueTree → Type 0
  DeclaresVariable n v = (at : ℕ) × (declaration (file_in s) n ≡ Some (d.variable at v))

  abbrev pub AreDeclared : List Declared → Type 0
  AreDeclared cs = map declared_tree cs ≡ (file_in s).declared.declarations

  abbrev pub AreDeclaredOutputs : List DeclaredOutput → Type 0
  AreDeclaredOutputs os = map output_tree os ≡ (file_in s).declared.outputs

  -- ---- parameters, variables and outputs

  abbrev pub default_extremes : Option SourceTree → Extremes
  default_extremes None = nothing
  default_extremes (Some e) = tree_extremes (tree (emission_sight s) e [])

  abbrev pub default_in : ℕ → Extremes
  default_in n = default_extremes (default_of s n)

  -- the object of a parameter
  abbrev pub parameter_extremes : Option Parameter → ℕ → Extremes
  parameter_extremes rule n = enclosed (joined (default_in n) (plain (rule_depth rule)))

  abbrev pub ruled_extremes : List (Option Parameter) → ℕ → Extremes
  ruled_extremes rs n = parameter_extremes (rule_at s rs n) n

  -- the value of a variable that has an entry
  abbrev pub named_extremes : Option (List ℕ) → ValueTree → Extremes
  named_extremes None v = nothing
  named_extremes (Some x) v = value_extremes (value (emission_sight s) (Some x) v [])

  abbrev pub entry_extremes : Option (List ℕ) → Option ValueTree → Extremes
  entry_extremes x None = nothing
  entry_extremes x (Some v) = named_extremes x v

  abbrev pub variable_extremes : ℕ → Extremes
  variable_extremes n = entry_extremes (symbol_name (file_in s) n) (entry_at s n)

  -- the object of an output
  abbrev pub content_extremes : ValueTree → Extremes
  content_extremes v = output_object (is_loop v) (value_extremes (value (emission_sight s) None v []))

  abbrev pub output_value : Option Value → Option OutputTree → Extremes
  output_value m None = nothing
  output_value m (Some o) = joined (content_extremes o.value) (noted m)

  -- by the metadata of outputs
  abbrev pub output_extremes : List (Option Value) → ℕ → Extremes
  output_extremes os n = output_value (metadata_at os n) (output_at s n)

  abbrev pub all_outputs : List (Option Value) → Extremes
  all_outputs os = over (output_extremes os) (length (file_in s).declared.outputs)

  -- ---- modules

  -- the properties of a nested deployment, with the arguments of the module and the template of its file
  abbrev pub argument_extremes : ℕ → BodyTree → Extremes
  argument_extremes n b =
      arguments_extremes (emission_sight s) (frames_around (whole_in s) n b.each) (arguments_in b.fields)

  abbrev pub properties_extremes : ℕ → BodyTree → Extremes → Extremes
  properties_extremes n b template = enclosed (joined (enclosed (enclosed (argument_extremes n b))) template)

-- the object of an existing resource, which a template of the first form does not have
abbrev pub existing_extremes : Form → Shape → ℕ → BodyTree → Option Value → Extremes
existing_extremes One s n b m = nothing
existing_extremes Two s n b m =
    joined (joined (head_extremes (whole_in s) n b.each) (enclosed (loop_extremes b.each))) (noted m)

module _ (z : Form) (s : Shape) where
  -- ---- resources and modules

  -- the members `dependsOn` and `copy` of the object of a resource
  abbrev pub dependency_extremes : ℕ → Extremes
  dependency_extremes n = elements_extremes (files_in s) (file_in s) z (dependencies (file_in s) n)

  abbrev pub needs_extremes : ℕ → BodyTree → Extremes
  needs_extremes n b = enclosed (joined (dependency_extremes n) (loop_extremes b.each))

  abbrev pub put_extremes : ℕ → BodyTree → Extremes
  put_extremes n b = joined (resource_extremes s n b) (needs_extremes n b)

  abbrev pub module_extremes : ℕ → BodyTree → Extremes → Extremes
  module_extremes n b template =
      joined (head_extremes (whole_in s) n b.each)
      (joined (needs_extremes n b) (enclosed (properties_extremes s n b template)))

  -- the same with metadata
  abbrev pub put_object : ℕ → BodyTree → Option Value → Extremes
  put_object n b m = joined (put_extremes n b) (noted m)

  abbrev pub module_object : ℕ → BodyTree → Option Value → Extremes → Extremes
  module_object n b m template = joined (module_extremes n b template) (noted m)

  -- ---- the file, by the rules of its parameters and by the metadata of its symbols and of its outputs

  module _ (rs : List (Option Parameter)) (ms : List (Option Value)) (inner : ℕ → Extremes) where
    abbrev pub declared_extremes : ℕ → Option DeclaredTree → Extremes
    declared_extremes n None = nothing
    declared_extremes n (Some (d.parameter at t)) = ruled_extremes s rs n
    declared_extremes n (Some (d.parameter_with at t e)) = ruled_extremes s rs n
    declared_extremes n (Some (d.variable at v)) = variable_extremes s n
    declared_extremes n (Some (d.a_resource at q true b)) = existing_extremes z s n b (metadata_at ms n)
    declared_extremes n (Some (d.a_resource at q false b)) = put_object n b (metadata_at ms n)
    declared_extremes n (Some (d.a_module at b)) = module_object n b (metadata_at ms n) (inner n)

    abbrev pub declaration_extremes : ℕ → Extremes
    declaration_extremes n = declared_extremes n (declaration (file_in s) n)

    abbrev pub all_declarations : Extremes
    all_declarations = over declaration_extremes (length (file_in s).declared.declarations)

  module _ (rs : List (Option Parameter)) (ms os : List (Option Value)) (inner : ℕ → Extremes) where
    -- the parts of the template: its parameters, variables and resources, and its outputs
    abbrev pub parts_extremes : Extremes
    parts_extremes = joined (all_declarations rs ms inner) (all_outputs s os)

    -- the template, in which each part is inside two objects, or an object and an array
    abbrev pub file_extremes : Extremes
    file_extremes = enclosed (enclosed parts_extremes)
