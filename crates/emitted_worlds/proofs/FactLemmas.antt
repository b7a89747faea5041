-- The facts of worlds that are desired of a program or, renamed, of its template.
use Rattle.std.proofs.Common.{List, Option}
use Rattle.arm_value.specs.Json.{Json}
use Rattle.arm_ids.specs.Held.{HeldResource}
use Rattle.arm_ids.specs.declared.id.ResourceId.{ResourceId}
use Rattle.template_parts.specs.declared.mode.Form.{Form}
use Rattle.deploy_cells.specs.Cells.{World}
use Rattle.plan_cells.specs.Desired as template
use Rattle.plan_cells.specs.Meaning.{Deployment}
use Rattle.bicep_meaning.specs.Instances as program
use Rattle.bicep_meaning.specs.Instances.{SourceProgram}
use Rattle.cell_renaming.specs.Renaming.{IsRenamable}
use Rattle.cell_renaming.specs.Renamed.{IsEither, as_it_is, as_renamed}
use Rattle.source_worlds.specs.Numbers.{numbering}
use Rattle.emitted_files.specs.Files.{IsEmitted}
use Rattle.emitted_worlds.specs.Facts.{HasOwnTypes, HoldsResources, HasFacts}
use Rattle.emitted_worlds.proofs.ProgramLemmas.{by_program}
use Rattle.emitted_worlds.proofs.RenamedLemmas.{by_template}

pub facts : (z : Form) (d : SourceProgram) (t : Deployment) (opening : ResourceId → Option Json)
    (held : List HeldResource) → IsEmitted z d.files t.template → HasOwnTypes d → HoldsResources opening
    → HoldsResources (template.held_state held) → (w : World) → IsRenamable (numbering z d.files) w
    → IsEither (numbering z d.files) (program.desired d opening) (template.desired t held) w → HasFacts z d w
facts z d t opening held m own o k w n (as_it_is h) = by_program z d opening own o w h
facts z d t opening held m own o k w n (as_renamed h) = by_template z d t held m own k w n h
