-- Templates of files that have no more parts than a template may have.
use Rattle.std.specs.Prelude.{◌≡◌, ◌≤◌, ◌+◌, ℕ, not, List, [], ◌∷◌, length, Option, None}
use Rattle.template_parts.specs.declared.mode.Form.{Form}
use Rattle.template_parts.specs.declared.parameter.Parameter.{Parameter}
use Rattle.template_tree.specs.Tree.{TemplateTree}
use Rattle.template_tree.specs.View.{template_tree}
use Rattle.template_tree.specs.declared.resource.Template.{Template}
use Rattle.plan_cells.specs.Resources.{Listed, header_in, resources_in}
use Rattle.file_counts.specs.Counts.{first_beyond}
use Rattle.existing_templates.specs.Built.{Templates}
use Rattle.existing_templates.specs.Found.{one_if}
use Rattle.existing_templates.specs.Seen.{Shape, file_in}
use Rattle.existing_templates.specs.Templates.{IsTemplateOf}

-- how many of these resources do not exist already
abbrev pub put_count : List Listed → ℕ
put_count [] = 0
put_count (r ∷ rs) = one_if (not r.declaration.existing) + put_count rs

-- the lists of a template are not too long (`file_counts` has the limits); children of resources count, and existing
-- resources do not
pub record HasFewParts (u : TemplateTree) : Type 0 where
  pub few_parameters : length (header_in u).parameters ≤ 256
  pub few_variables : length (header_in u).variables ≤ 512
  pub few_outputs : length (header_in u).outputs ≤ 64
  pub few_resources : put_count (resources_in u) ≤ 800

abbrev pub TemplatesHaveFewParts : Type 0
TemplatesHaveFewParts =
    (z : Form) (s : Shape) (rs : List (Option Parameter)) (us : Templates) (u : Template) → IsTemplateOf z s rs us u
    → first_beyond (file_in s) ≡ None → HasFewParts (template_tree u)
