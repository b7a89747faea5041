-- What holds of emitted templates.
use Rattle.std.specs.Prelude.{ℕ, List}
use Rattle.arm_ids.specs.Held.{HeldResource}
use Rattle.template_parameters.specs.Binding.{BoundMeaning}
use Rattle.template_parts.specs.declared.mode.Form.{Form}
use Rattle.template_tree.specs.Tree.{TemplateTree}
use Rattle.template_tree.specs.View.{template_tree}
use Rattle.template_tree.specs.declared.resource.Template.{Template}
use Rattle.deploy_cells.specs.Cells.{World}
use Rattle.plan_cells.specs.Desired as template
use Rattle.plan_cells.specs.Desired.{held_state}
use Rattle.bicep_program.specs.declared.file.Program.{Program}
use Rattle.bicep_types.specs.declared.checked.Checked.{Checked}
use Rattle.bicep_meaning.specs.Instances.{SourceProgram}
use Rattle.emitted_worlds.specs.Facts.{HoldsResources}
use Rattle.emitted_programs.specs.Given.{IsBinding, IsDeployed, deployed}
use Rattle.emitted_needs.specs.Symbols.{HaveSymbols}
use Rattle.bicep_emit.specs.Programs.{IsEmission}
use Rattle.program_laws.specs.Programs.{IsCounterpart, IsProgramOf}

-- the template of a program is deployed as the program
abbrev pub EmittedProgramsAreDeployed : Type 0
EmittedProgramsAreDeployed =
    (z : Form) (p : Program) (c : Checked) (t : Template) (d : SourceProgram) (bound : List (List ℕ × BoundMeaning))
    (held : List HeldResource) → IsProgramOf z p c d → IsEmission z p c t → IsBinding d (template_tree t) bound
    → HoldsResources (held_state held) → IsDeployed z d (template_tree t) bound held

-- the names of its symbols differ
abbrev pub EmittedProgramsHaveSymbols : Type 0
EmittedProgramsHaveSymbols =
    (z : Form) (p : Program) (c : Checked) (d : SourceProgram) → IsProgramOf z p c d → HaveSymbols d

-- each desired state of the template is that of a world that satisfies the program, and each such world gives one
pub record DesiredStatesAreOfPrograms : Type 0 where
  pub forth : (z : Form) (d : SourceProgram) (u : TemplateTree) (bound : List (List ℕ × BoundMeaning))
      (held : List HeldResource) → IsDeployed z d u bound held → (v : World)
      → template.Satisfies (deployed d u bound) held v → (w : World) × IsCounterpart z d held v w
  pub back : (z : Form) (d : SourceProgram) (u : TemplateTree) (bound : List (List ℕ × BoundMeaning))
      (held : List HeldResource) → IsDeployed z d u bound held → (v w : World) → IsCounterpart z d held v w
      → template.Satisfies (deployed d u bound) held v
