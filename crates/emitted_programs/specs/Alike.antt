-- When a template reads what its program reads.
use Rattle.std.specs.Prelude.{Option}
use Rattle.arm_value.specs.Json.{Json}
use Rattle.deploy_cells.specs.Cells.{World}
use Rattle.deploy_cells.specs.Guarded.{Reads}
use Rattle.template_parts.specs.declared.mode.Form.{Form}
use Rattle.bicep_emission.specs.Alike.{Alike}
use Rattle.bicep_meaning.specs.Instances.{SourceProgram}
use Rattle.cell_renaming.specs.Renaming.{renamed}
use Rattle.source_worlds.specs.Numbers.{numbering}
use Rattle.emitted_sites.specs.Values.{AreBoth}
use Rattle.emitted_sites.specs.Marks.{Marks}

-- what the template reads in the renamed world and what the program reads in the world are both there or neither; and
-- they have the same value or none, and both or neither read a marked cell
abbrev pub AreAlike : Form → SourceProgram → World → Marks → Option (Reads Json) → Option (Reads Json) → Type 0
AreAlike z d w x a b =
    AreBoth (λ r s. Alike (renamed (numbering z d.files) w) x.template w x.source r s) a b
