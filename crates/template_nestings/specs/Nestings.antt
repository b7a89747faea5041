-- How deep the value nests that is written of a template, by its parts, counted up to 2 ^ 64 - 1.
use Rattle.std.specs.Prelude.{ℕ, ◌+◌, ◌-◌, ◌^◌, ◌==◌, min, max, length, List, [], ◌∷◌, Option, Some, None}
use Rattle.std.specs.Prelude.{if◌then◌else◌}
use Rattle.arm_value.specs.Json.{Json, nesting, items_nesting, members_nesting}
use Rattle.arm_value.specs.View.{json}
use Rattle.arm_value.specs.declared.value.Value.{Value}
use Rattle.template_parts.specs.declared.content.Argument.{Argument}
use Rattle.template_parts.specs.declared.content.Content.{Content}
use Rattle.template_parts.specs.declared.content.Content.TheVariants as content
use Rattle.template_parts.specs.declared.declaration.Declaration.{Declaration}
use Rattle.template_parts.specs.declared.looping.ResourceCopy.{ResourceCopy}
use Rattle.template_parts.specs.declared.mode.Scope.{Scope}
use Rattle.template_parts.specs.declared.mode.Scope.TheVariants.{Outer, Inner}
use Rattle.template_parts.specs.declared.output.Output.{Output}
use Rattle.template_parts.specs.declared.parameter.Parameter.{Parameter}
use Rattle.template_parts.specs.declared.variable.Variable.{Variable}
use Rattle.template_tree.specs.Tree.{Header, TemplateTree, template, ResourceTree, resource, BodyTree, body_members}
use Rattle.template_tree.specs.Tree.{deployment, Trees, no_resources, a_resource}

-- of an array or an object, by its deepest part
abbrev pub up : ℕ → ℕ
up n = min (n + 1) (2 ^ 64 - 1)

-- of the deepest of these; 0 where there is none
abbrev pub deepest : {A : Type 0} → (A → ℕ) → List A → ℕ
deepest f [] = 0
deepest f (x ∷ xs) = max (f x) (deepest f xs)

-- of the object of these, which is left out where there is none
abbrev pub listed : {A : Type 0} → (A → ℕ) → List A → ℕ
listed f xs = if length xs == 0 then 0 else up (deepest f xs)

-- of an array, which is left out where it is empty
abbrev pub items_or_none : List Json → ℕ
items_or_none js = if length js == 0 then 0 else up (items_nesting js)

abbrev pub value_or_none : Option Value → ℕ
value_or_none None = 0
value_or_none (Some v) = nesting (json v)

-- ---- parameters, variables, outputs and arguments

abbrev pub allowed_nesting : Option (List Json) → ℕ
allowed_nesting None = 0
allowed_nesting (Some js) = up (items_nesting js)

abbrev pub parameter_nesting : Parameter → ℕ
parameter_nesting p =
    up (max (value_or_none p.default_value) (max (allowed_nesting p.allowed_values) (value_or_none p.metadata)))

-- of the object of a loop
abbrev pub loop_nesting : Value → Value → ℕ
loop_nesting count input = up (max (nesting (json count)) (nesting (json input)))

-- a loop that gives a variable or an argument is an item of the array `copy`
abbrev pub content_nesting : Content → ℕ
content_nesting (content.Value v) = nesting (json v)
content_nesting (content.Copy count input) = up (loop_nesting count input)

abbrev pub variable_nesting : Variable → ℕ
variable_nesting v = content_nesting v.content

abbrev pub argument_nesting : Argument → ℕ
argument_nesting a = up (content_nesting a.content)

-- the loop that gives an output is its member `copy`
abbrev pub output_content : Content → ℕ
output_content (content.Value v) = nesting (json v)
output_content (content.Copy count input) = loop_nesting count input

abbrev pub output_nesting : Output → ℕ
output_nesting o =
    up (max (output_content o.content) (max (value_or_none o.condition) (value_or_none o.metadata)))

abbrev pub header_nesting : Header → ℕ
header_nesting h =
    max (listed parameter_nesting h.parameters)
    (max (listed variable_nesting h.variables) (listed output_nesting h.outputs))

-- ---- resources

abbrev pub copy_nesting : Option ResourceCopy → ℕ
copy_nesting None = 0
copy_nesting (Some c) = up (nesting (json c.count))

abbrev pub declaration_nesting : Declaration → ℕ
declaration_nesting d =
    max (nesting (json d.name))
    (max (value_or_none d.condition)
    (max (items_or_none d.depends_on) (max (copy_nesting d.copy) (value_or_none d.metadata))))

-- of the array of children, by the deepest of them
abbrev pub children_nesting : Trees → ℕ → ℕ
children_nesting no_resources n = 0
children_nesting (a_resource r rs) n = up n

-- of the options of a nested deployment
abbrev pub scope_nesting : Scope → ℕ
scope_nesting Outer = 0
scope_nesting Inner = 1

-- of the properties of a nested deployment, by its template
abbrev pub properties_nesting : Scope → List Argument → ℕ → ℕ
properties_nesting s ps n = up (max (scope_nesting s) (max (listed argument_nesting ps) n))

abbrev mutual
  pub template_nesting : TemplateTree → ℕ
  template_nesting (template h rs) = up (max (header_nesting h) (up (trees_nesting rs)))

  pub resource_nesting : ResourceTree → ℕ
  resource_nesting (resource d b rs) =
      up (max (declaration_nesting d) (max (children_nesting rs (trees_nesting rs)) (body_nesting b)))

  pub body_nesting : BodyTree → ℕ
  body_nesting (body_members ms) = members_nesting ms
  body_nesting (deployment s ps t) = properties_nesting s ps (template_nesting t)

  -- of the deepest
  pub trees_nesting : Trees → ℕ
  trees_nesting no_resources = 0
  trees_nesting (a_resource r rs) = max (resource_nesting r) (trees_nesting rs)
