-- The value that states a template: each member under its canonical name, and what may be left out is left out.
use Rattle.std.specs.Prelude.{ℕ, ◌≤◌, ◌++◌, codes, List, [], ◌∷◌, map, Option, Some, None}
use Rattle.arm_value.specs.Json.{Json, text, array, object, Member, row, pairs, nesting}
use Rattle.template_parts.specs.declared.content.Argument.{Argument}
use Rattle.template_parts.specs.declared.mode.Form.{Form}
use Rattle.template_parts.specs.declared.mode.Form.TheVariants.{One, Two}
use Rattle.template_parts.specs.declared.mode.Scope.{Scope}
use Rattle.template_parts.specs.declared.mode.Scope.TheVariants.{Outer, Inner}
use Rattle.template_tree.specs.Tree.{Header, TemplateTree, template, ResourceTree, resource, BodyTree, body_members}
use Rattle.template_tree.specs.Tree.{deployment, Trees, no_resources, a_resource}
use Rattle.template_written.specs.Slots.{Slot, put_slots, an_object, word, object_unless_empty}
use Rattle.template_written.specs.Parts.{written_parameter, written_variables, written_output, written_argument}
use Rattle.template_written.specs.Parts.{declaration_slots}

-- resources have symbolic names where `languageVersion` is `2.0`; without it they have none
abbrev pub version_of : Form → Option Json
version_of One = None
version_of Two = Some (word (codes "2.0"))

-- the texts of a template
abbrev pub text_slots : Header → List Slot
text_slots h =
    (codes "$schema", Some (text h.schema))
    ∷ (codes "contentVersion", Some (text h.content_version))
    ∷ (codes "languageVersion", version_of h.form)
    ∷ []

-- the lists of a template, each left out where it is empty
abbrev pub list_slots : Header → List Slot
list_slots h =
    (codes "parameters", object_unless_empty (map written_parameter h.parameters))
    ∷ (codes "variables", object_unless_empty (written_variables h.variables))
    ∷ (codes "outputs", object_unless_empty (map written_output h.outputs))
    ∷ []

-- a template whose resources are written so
abbrev pub header_slots : Header → Json → List Slot
header_slots h resources = text_slots h ++ list_slots h ++ (codes "resources", Some resources) ∷ []

-- which expressions a nested template sees; `outer` is left out
abbrev pub options_of : Scope → Option Json
options_of Outer = None
options_of Inner = Some (an_object ((codes "scope", Some (word (codes "inner"))) ∷ []))

-- the properties of a nested deployment but its template
abbrev pub property_slots : Scope → List Argument → List Slot
property_slots s ps =
    (codes "mode", Some (word (codes "Incremental")))
    ∷ (codes "expressionEvaluationOptions", options_of s)
    ∷ (codes "parameters", object_unless_empty (map written_argument ps))
    ∷ []

-- the properties of a nested deployment whose template is written so
abbrev pub deployment_slots : Scope → List Argument → Json → List Slot
deployment_slots s ps t = property_slots s ps ++ (codes "template", Some t) ∷ []

-- the symbolic name, which is empty where there is none
abbrev pub name_or_none : Option (List ℕ) → List ℕ
name_or_none None = []
name_or_none (Some s) = s

abbrev pub tree_symbol : ResourceTree → List ℕ
tree_symbol (resource d b rs) = name_or_none d.symbol

-- resources as an array, or as an object by symbolic names
abbrev pub resources_by : Form → List Json → List Member → Json
resources_by One js ms = array (row js)
resources_by Two js ms = object (pairs ms)

abbrev mutual
  pub written : TemplateTree → Json
  written (template h rs) = an_object (header_slots h (resources_by h.form (written_each rs) (written_by_symbol rs)))

  pub written_each : Trees → List Json
  written_each no_resources = []
  written_each (a_resource r rs) = written_resource r ∷ written_each rs

  pub written_by_symbol : Trees → List Member
  written_by_symbol no_resources = []
  written_by_symbol (a_resource r rs) = (tree_symbol r, written_resource r) ∷ written_by_symbol rs

  -- the members of its body with those that declare it
  pub written_resource : ResourceTree → Json
  written_resource (resource d b rs) =
      object (pairs (put_slots (declaration_slots d (written_each rs)) (written_body b)))

  -- a nested deployment has all but its declaration in `properties`
  pub written_body : BodyTree → List Member
  written_body (body_members ms) = ms
  written_body (deployment s ps t) =
      put_slots ((codes "properties", Some (an_object (deployment_slots s ps (written t)))) ∷ []) []

-- the properties of a nested deployment nest no deeper than the value of a member may
abbrev pub BodyNests : BodyTree → Type 0
BodyNests (body_members ms) = Unit {0}
BodyNests (deployment s ps t) = nesting (an_object (deployment_slots s ps (written t))) ≤ 119
