-- The existing resources of a template (Microsoft Learn, "Resource declaration in ARM templates").
use Rattle.std.specs.Prelude.{◌≡◌, ℕ, true, List, [], Option, Some, None, slice_get}
use Rattle.arm_value.specs.View.{json}
use Rattle.template_parts.specs.declared.mode.Form.{Form}
use Rattle.template_parts.specs.declared.parameter.Parameter.{Parameter}
use Rattle.template_tree.specs.Tree.{TemplateTree, body_members}
use Rattle.template_tree.specs.View.{template_tree}
use Rattle.template_tree.specs.declared.resource.Template.{Template}
use Rattle.plan_cells.specs.Resources.{Listed, resources_in}
use Rattle.bicep_tree.specs.declared.leaf.Quoted.{Quoted}
use Rattle.bicep_declared.specs.Declarations.{BodyTree, a_resource}
use Rattle.bicep_meaning.specs.Files.{SourceFile, declaration, symbol_name}
use Rattle.bicep_meaning.specs.Instances.{resource_kind}
use Rattle.emitted_declarations.specs.Declared.{whole}
use Rattle.source_worlds.specs.Numbers.{in_template}
use Rattle.file_limits.specs.Built.{Templates}
use Rattle.file_limits.specs.Files.{IsLoop, frames_around}
use Rattle.file_limits.specs.Fits.{IsReady}
use Rattle.file_limits.specs.Seen.{Shape, file_in, files_in}
use Rattle.file_limits.specs.Templates.{IsTemplateOf}
use Rattle.file_limits.specs.Values.{AreBoth, IsTree, plain_or_expression}
use Rattle.file_limits.specs.Within.{IsWithin}

-- the existing resource of a symbol that has this body: it has the type, the version, the name and the loop of its
-- declaration, the name of its symbol, and nothing else
pub record IsExisting (files : List SourceFile) (f : SourceFile) (n : ℕ) (b : BodyTree) (x : Listed) : Type 0 where
  pub existing : x.declaration.existing ≡ true
  pub symbol : x.declaration.symbol ≡ symbol_name f n
  pub type : x.type ≡ (resource_kind f n).type
  pub api : x.declaration.api_version ≡ (resource_kind f n).api
  pub is_no_child : x.above ≡ None
  pub name : IsTree
      (plain_or_expression ((whole f files).full_name n (frames_around (whole f files) n b.each)))
      (json x.declaration.name)
  pub loop : AreBoth (IsLoop files f n) b.each x.declaration.copy
  pub depends_on : x.declaration.depends_on ≡ []
  pub content : x.content ≡ body_members []

-- the resource of a template at the place of a symbol of an existing resource is this one. The first form has none
abbrev pub HasExisting : Form → List SourceFile → SourceFile → TemplateTree → Type 0
HasExisting z files f u =
    (m n at : ℕ) (q : Quoted) (b : BodyTree) → slice_get (in_template z f) m ≡ Some n
    → declaration f n ≡ Some (a_resource at q true b)
    → (x : Listed) × ((slice_get (resources_in u) m ≡ Some x) × IsExisting files f n b x)

abbrev pub TemplatesHaveExistingResources : Type 0
TemplatesHaveExistingResources =
    (z : Form) (s : Shape) (rs : List (Option Parameter)) (us : Templates) (u : Template) → IsReady s
    → ((n : ℕ) → IsWithin z s n) → IsTemplateOf z s rs us u
    → HasExisting z (files_in s) (file_in s) (template_tree u)
