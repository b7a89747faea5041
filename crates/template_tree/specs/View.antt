-- The tree of a resource and of a template of the code.
use Rattle.template_tree.specs.Tree.{Header, TemplateTree, template, ResourceTree, resource, BodyTree, body_members}
use Rattle.template_tree.specs.Tree.{deployment, trees}
use Rattle.template_tree.specs.declared.resource.Body.{Body}
use Rattle.template_tree.specs.declared.resource.Body.TheVariants.{Members, Deployment}
use Rattle.template_tree.specs.declared.resource.Resource.{Resource}
use Rattle.template_tree.specs.declared.resource.Template.{Template}

abbrev pub header_of : Template → Header
header_of t = record {
  form = t.form;
  schema = t.schema;
  content_version = t.content_version;
  parameters = t.parameters;
  variables = t.variables;
  outputs = t.outputs;
}

abbrev pub template_tree : Template → TemplateTree
template_tree t = template (header_of t) (trees t.resources)

abbrev pub body_tree : Body → BodyTree
body_tree (Members ms) = body_members ms
body_tree (Deployment d) = deployment d.scope d.parameters (template_tree d.template)

abbrev pub resource_tree : Resource → ResourceTree
resource_tree r = resource r.declaration (body_tree r.body) (trees r.resources)
