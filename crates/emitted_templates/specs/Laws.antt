-- What holds of templates that are made.
use Rattle.std.specs.Prelude.{ℕ, List, Option}
use Rattle.arm_value.specs.Json.{Json}
use Rattle.arm_value.specs.declared.value.Value.{Value}
use Rattle.template_parts.specs.declared.mode.Form.{Form}
use Rattle.template_parts.specs.declared.parameter.Parameter.{Parameter}
use Rattle.template_tree.specs.View.{template_tree}
use Rattle.template_tree.specs.declared.resource.Template.{Template}
use Rattle.file_resources.specs.Built.{Templates}
use Rattle.file_resources.specs.Fits.{IsReady}
use Rattle.file_resources.specs.Seen.{Shape, file_in}
use Rattle.file_resources.specs.Within.{IsWithin}
use Rattle.emitted_templates.specs.Metadata.{HasMetadata, IsNoted, AreOf}
use Rattle.emitted_templates.specs.Parts.{HasParts}
use Rattle.emitted_templates.specs.Templates.{IsTemplateOf}

-- the template of a file whose resources are within the limits of templates has the parts of the file
abbrev pub TemplatesHaveParts : Type 0
TemplatesHaveParts =
    (z : Form) (s : Shape) (rs : List (Option Parameter)) (us : Templates) (u : Template) → IsReady s
    → ((n : ℕ) → IsWithin z s n) → IsTemplateOf z s rs us u → HasParts z s rs (template_tree u)

-- its parts have the metadata with which it was made
abbrev pub TemplatesHaveMetadata : Type 0
TemplatesHaveMetadata =
    (z : Form) (s : Shape) (rs : List (Option Parameter)) (us : Templates) (ms os : List (Option Value)) (u : Template)
    → IsTemplateOf z s rs us u → IsNoted z s ms os u → (of_symbol of_output : ℕ → Option Json)
    → AreOf s rs ms os of_symbol of_output → HasMetadata z (file_in s) of_symbol of_output (template_tree u)
