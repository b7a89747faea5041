-- A template of the first form, and what is known of it at the start.
use Rattle.std.specs.Prelude.{ℕ, zero, suc, pos, false, List, [], ◌∷◌, Option, Some, None, codes}
use Rattle.arm_value.specs.Json.{Json, int, text}
use Rattle.arm_value.specs.declared.value.Value.{Value}
use Rattle.arm_value.specs.declared.value.Value.TheVariants as value
use Rattle.arm_ids.specs.declared.id.Place.{Place}
use Rattle.reading.specs.Knowledge.{missing, told}
use Rattle.template_parts.specs.declared.content.Argument.{Argument}
use Rattle.template_parts.specs.declared.content.Content.TheVariants as content
use Rattle.template_parts.specs.declared.declaration.Declaration.{Declaration}
use Rattle.template_parts.specs.declared.looping.Batches.TheVariants.{Serial}
use Rattle.template_parts.specs.declared.looping.ResourceCopy.{ResourceCopy}
use Rattle.template_parts.specs.declared.mode.Form.{Form}
use Rattle.template_parts.specs.declared.mode.Form.TheVariants.{One, Two}
use Rattle.template_parts.specs.declared.mode.Scope.{Scope}
use Rattle.template_parts.specs.declared.mode.Scope.TheVariants.{Inner}
use Rattle.template_parts.specs.declared.output.Output.{Output}
use Rattle.template_parts.specs.declared.parameter.Parameter.{Parameter}
use Rattle.template_parts.specs.declared.value_type.ValueType.{ValueType}
use Rattle.template_parts.specs.declared.value_type.ValueType.TheVariants as type
use Rattle.template_parameters.specs.Binding.{is_known}
use Rattle.template_tree.specs.Tree.{Header, TemplateTree, template, resource, body_members, deployment, no_resources}
use Rattle.template_tree.specs.Tree.{a_resource, Trees}
use Rattle.plan_cells.specs.Known.{Table, entry_told, entry_by}
use Rattle.plan_cells.specs.Start.{start}
use Rattle.plan_cells.specs.Meaning.{Deployment, meaning}

abbrev pub said : List ℕ → Value
said t = value.Text t

abbrev pub parameter : List ℕ → ValueType → Option Value → Parameter
parameter x k default = record {
  name = x;
  kind = k;
  default_value = default;
  allowed_values = None;
  bounds = record { min_value = None; max_value = None; min_length = None; max_length = None };
  metadata = None;
}

abbrev pub output : List ℕ → ValueType → Value → Output
output x k v = record { name = x; kind = k; content = content.Value v; condition = None; metadata = None }

abbrev pub declaration : Option (List ℕ) → List ℕ → List ℕ → Option ResourceCopy → List Json → Declaration
declaration symbol kind name copy depends = record {
  symbol = symbol;
  existing = false;
  kind = kind;
  api_version = codes "1";
  name = said name;
  condition = None;
  depends_on = depends;
  copy = copy;
  metadata = None;
}

abbrev pub header : Form → List Parameter → List Output → Header
header form ps os = record {
  form = form;
  schema = [];
  content_version = [];
  parameters = ps;
  variables = [];
  outputs = os;
}

-- what a nested deployment deploys: nothing, with one output that is its parameter
abbrev pub inner : TemplateTree
inner =
    template (header One (parameter (codes "q") type.String None ∷ [])
    (output (codes "o") type.String (said (codes "[parameters('q')]")) ∷ [])) no_resources

abbrev pub loop : ResourceCopy
loop = record { name = codes "l"; count = said (codes "[parameters('n')]"); batches = Serial 1 }

abbrev pub looped : Declaration
looped = declaration None (codes "T/a") (codes "x") (Some loop) []

abbrev pub deployments_type : List ℕ
deployments_type = codes "Microsoft.Resources/deployments"

abbrev pub module_m : Declaration
module_m = declaration None deployments_type (codes "m") None (text (codes "L") ∷ [])

abbrev pub argument : Argument
argument = record { name = codes "q"; content = content.Value (said (codes "named")) }

abbrev pub named_by_output : Declaration
named_by_output =
    declaration None (codes "T/b")
    (codes "[reference(resourceId('Microsoft.Resources/deployments', 'm')).outputs.o.value]") None []

-- a loop of two, a nested deployment that depends on it, and a resource that is named by the output of that
abbrev pub resources : Trees
resources =
    a_resource (resource looped (body_members []) no_resources)
    (a_resource (resource module_m (deployment Inner (argument ∷ []) inner) no_resources)
    (a_resource (resource named_by_output (body_members []) no_resources) no_resources))

abbrev pub place : Place
place = record { subscription = codes "s"; group = codes "g"; location = codes "w"; deployment = codes "d" }

abbrev pub sample : Deployment
sample = record {
  template = template (header One (parameter (codes "n") type.Int None ∷ []) []) resources;
  bound = (codes "n", is_known (int (pos 2))) ∷ [];
  place = place;
}

-- a template with a parameter that has a default, and an output that is it
abbrev pub inside : TemplateTree
inside =
    template (header One (parameter (codes "p") type.String (Some (said (codes "i"))) ∷ [])
    (output (codes "r") type.String (said (codes "[parameters('p')]")) ∷ [])) no_resources

-- a template of the second form with a parameter of the same name, which deploys it and reads its output by its symbol
abbrev pub around : Scope → Deployment
around scope = record {
  template =
      template (header Two (parameter (codes "p") type.String None ∷ [])
      (output (codes "z") type.String (said (codes "[reference('m').outputs.r.value]")) ∷ []))
      (a_resource (resource (declaration (Some (codes "m")) deployments_type (codes "n") None [])
      (deployment scope [] inside) no_resources) no_resources);
  bound = (codes "p", is_known (text (codes "o"))) ∷ [];
  place = place;
}

-- what is known after so many rounds
abbrev pub known_after : Deployment → ℕ → Table
known_after d zero c = missing
known_after d (suc n) c = entry_by (start c) (entry_told (told (known_after d n) (meaning d c)))
