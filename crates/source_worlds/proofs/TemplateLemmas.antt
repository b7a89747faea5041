-- A template that says what its program says is desired of renamed worlds.
use Rattle.std.proofs.Common.{Option}
use Rattle.arm_value.specs.Json.{Json}
use Rattle.arm_ids.specs.declared.id.ResourceId.{ResourceId}
use Rattle.template_parts.specs.declared.mode.Form.{Form}
use Rattle.deploy_cells.specs.Puts.{Desired}
use Rattle.bicep_meaning.specs.Instances.{SourceProgram, desired}
use Rattle.cell_renaming.specs.Renamed.{IsRenamed}
use Rattle.source_worlds.specs.Numbers.{numbering}
use Rattle.source_worlds.specs.Template.{IsTemplateOf}
use Rattle.source_worlds.proofs.DeclaredLemmas.{undeclared}

pub is_renamed : (z : Form) (d : SourceProgram) (held : ResourceId → Option Json) (t : Desired)
    → IsTemplateOf z d held t → IsRenamed (numbering z d.files) (desired d held) t
is_renamed z d held t h = record {
  place = h.place;
  held = h.held;
  means = h.means;
  bodies = h.bodies;
  kinds = h.kinds;
  undeclared = λ w c e a. undeclared z d w c e a;
  undeclared_renamed = h.undeclared;
}
