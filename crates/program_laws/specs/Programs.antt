-- The meaning of a program that is read and checked, and the worlds that desired states of its template stand for.
use Rattle.std.specs.Prelude.{◌≡◌, List}
use Rattle.arm_ids.specs.Held.{HeldResource}
use Rattle.template_parts.specs.declared.mode.Form.{Form}
use Rattle.deploy_cells.specs.Cells.{Cell, World}
use Rattle.cell_renaming.specs.Renaming.{IsRenamable, renamed}
use Rattle.plan_cells.specs.Desired.{held_state}
use Rattle.bicep_program.specs.Program.{files_of}
use Rattle.bicep_program.specs.declared.file.Program.{Program}
use Rattle.bicep_types.specs.declared.checked.Checked.{Checked}
use Rattle.resolved_program.specs.View.{files_view}
use Rattle.bicep_meaning.specs.Instances as source
use Rattle.bicep_meaning.specs.Instances.{SourceProgram}
use Rattle.bicep_emission.specs.Answered.{IsPlainPlace}
use Rattle.source_worlds.specs.Numbers.{numbering}
use Rattle.bicep_emit.specs.Programs.{HasNoFault, IsCheckedAs, IsLoaded, files_in_form}

-- the program is what `load` and `check` returned, at a place without a slash in its subscription and its group
pub record IsProgramOf (z : Form) (p : Program) (c : Checked) (d : SourceProgram) : Type 0 where
  pub loaded : IsLoaded p
  pub checked : IsCheckedAs p c
  pub none : HasNoFault p
  pub files : d.files ≡ files_in_form z (files_of p) (files_view c.resolved)
  pub place : IsPlainPlace d.place

-- the world satisfies the program, and is a world of its template once its cells have the numbers of the template
pub record IsCounterpart (z : Form) (d : SourceProgram) (held : List HeldResource) (v w : World) : Type 0 where
  pub satisfies : source.Satisfies d (held_state held) w
  pub renamable : IsRenamable (numbering z d.files) w
  pub same : (e : Cell) → renamed (numbering z d.files) w e ≡ v e
