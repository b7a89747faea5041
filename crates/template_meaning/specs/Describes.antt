-- Which template a value describes (Microsoft Learn, "Understand the structure and syntax of ARM templates"). Where the
-- value has no fault, it states this template.
use Rattle.std.specs.Prelude.{◌≡◌, codes, true, false, List, [], ◌∷◌, map, Some, if◌then◌else◌}
use Rattle.arm_value.specs.Json.{Json}
use Rattle.template_parts.specs.declared.mode.Form.{Form}
use Rattle.template_parts.specs.declared.mode.Form.TheVariants.{One, Two}
use Rattle.template_tree.specs.Tree.{Header, TemplateTree, template, ResourceTree, resource, BodyTree, body_members}
use Rattle.template_tree.specs.Tree.{deployment, Trees, no_resources, a_resource}
use Rattle.template_meaning.specs.Values.{Place, inside, text_in, text_is, members_in}
use Rattle.template_meaning.specs.Parts.{parameter_of, variables_of, output_of}
use Rattle.template_meaning.specs.Resources.{Listed, unnamed, listed, declaration_of, body_of, is_deployment, scope_in}
use Rattle.template_meaning.specs.Resources.{arguments_in}

-- resources have symbolic names where `languageVersion` is `2.0`
abbrev pub form_of : Place → Form
form_of o = if text_is (codes "2.0") (inside (codes "languageVersion") o) then Two else One

-- all of a template but its resources
abbrev pub header_by : Place → Header
header_by o = record {
  form = form_of o;
  schema = text_in (inside (codes "$schema") o);
  content_version = text_in (inside (codes "contentVersion") o);
  parameters = map parameter_of (members_in (inside (codes "parameters") o));
  variables = variables_of (members_in (inside (codes "variables") o));
  outputs = map output_of (members_in (inside (codes "outputs") o));
}

abbrev mutual
  pub DescribesTemplate : Place → TemplateTree → Type 0
  DescribesTemplate o (template h rs) =
      (h ≡ header_by o) × DescribesResources (listed (form_of o) (inside (codes "resources") o)) rs

  -- of a listed resource, with its children under it
  pub DescribesResource : Listed → ResourceTree → Type 0
  DescribesResource l (resource d b rs) =
      (d ≡ declaration_of l.0 (Some l.1)) × DescribesBody l b
      × DescribesResources (unnamed (inside (codes "resources") (Some l.1))) rs

  -- a nested deployment has its template, its scope and what it gives for parameters in `properties`
  pub DescribesBody : Listed → BodyTree → Type 0
  DescribesBody l (body_members ms) =
      (is_deployment (Some l.1) ≡ false) × (ms ≡ body_of l.0 (members_in (Some l.1)))
  DescribesBody l (deployment s ps t) =
      (is_deployment (Some l.1) ≡ true) × (s ≡ scope_in (inside (codes "properties") (Some l.1)))
      × (ps ≡ arguments_in (inside (codes "properties") (Some l.1)))
      × DescribesTemplate (inside (codes "template") (inside (codes "properties") (Some l.1))) t

  -- of all that are listed, in their order
  pub DescribesResources : List Listed → Trees → Type 0
  DescribesResources ls no_resources = ls ≡ []
  DescribesResources [] (a_resource r rs) = ⊥
  DescribesResources (l ∷ ls) (a_resource r rs) = DescribesResource l r × DescribesResources ls rs

-- the value describes the template
abbrev pub Describes : Json → TemplateTree → Type 0
Describes v t = DescribesTemplate (Some v) t
