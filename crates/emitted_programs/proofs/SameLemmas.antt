-- A program and its template have the same desired states.
use Rattle.std.proofs.Common.{◌≡◌, ℕ, List, refl}
use Rattle.std.specs.Prelude.{◌↔◌}
use Rattle.arm_ids.specs.Held.{HeldResource}
use Rattle.template_parameters.specs.Binding.{BoundMeaning}
use Rattle.template_parts.specs.declared.mode.Form.{Form}
use Rattle.template_tree.specs.Tree.{TemplateTree}
use Rattle.deploy_cells.specs.Cells.{Cell, World}
use Rattle.deploy_cells.specs.Puts.{Desired}
use Rattle.plan_cells.specs.Desired as template
use Rattle.plan_cells.specs.Desired.{held_state}
use Rattle.bicep_meaning.specs.Instances as source
use Rattle.bicep_meaning.specs.Instances.{SourceProgram}
use Rattle.cell_renaming.specs.Renamed.{IsRenamed, Stored, IsStored}
use Rattle.cell_renaming.specs.Renaming.{Renaming, IsOneToOne, renamed, unrenamed, IsRenamable}
use Rattle.cell_renaming.proofs.PutLemmas.{forth, back, no_others, desired_renamable, stored_forth, stored_back}
use Rattle.cell_renaming.proofs.WorldLemmas.{is_renaming}
use Rattle.source_worlds.specs.Numbers.{numbering}
use Rattle.source_worlds.proofs.NumberLemmas.{one_to_one}
use Rattle.source_worlds.proofs.TemplateLemmas.{is_renamed}
use Rattle.emitted_programs.specs.Given.{IsDeployed, deployed}
use Rattle.emitted_programs.proofs.BindingLemmas.{bindings}
use Rattle.emitted_programs.proofs.ProgramLemmas.{program_law}

module _ (z : Form) (d : SourceProgram) (u : TemplateTree) (bound : List (List ℕ × BoundMeaning))
    (held : List HeldResource) (h : IsDeployed z d u bound held) where
  abbrev r : Renaming
  r = numbering z d.files

  i : IsOneToOne r
  i = one_to_one z d.files

  abbrev s : Desired
  s = source.desired d (held_state held)

  abbrev t : Desired
  t = template.desired (deployed d u bound) held

  renaming : IsRenamed r s t
  renaming =
      is_renamed z d (held_state held) t
      (program_law z d u bound (held_state held) held h.emitted h.sound (bindings d u bound h.binding) h.holds
      (λ k. refl))

  pub same_forth : (w : World) → source.Satisfies d (held_state held) w
      → IsRenamable r w × template.Satisfies (deployed d u bound) held (renamed r w)
  same_forth w a =
      let n = desired_renamable r i s t renaming w a in
      (n, forth r i s t renaming w n a)

  pub same_back : (w : World) → IsRenamable r w → template.Satisfies (deployed d u bound) held (renamed r w)
      → source.Satisfies d (held_state held) w
  same_back w n a = back r i s t renaming w n a

  pub same_others : (v : World) → template.Satisfies (deployed d u bound) held v
      → source.Satisfies d (held_state held) (unrenamed r v) × ((c : Cell) → renamed r (unrenamed r v) c ≡ v c)
  same_others v a = (no_others r i s t renaming v a, is_renaming r i s t renaming v a.is_world)

  pub same_answers : (w : World) → source.Satisfies d (held_state held) w → (x : Stored)
      → IsStored s w x ↔ IsStored t (renamed r w) x
  same_answers w a x =
      let n = desired_renamable r i s t renaming w a in
      (λ g. stored_forth r i s t renaming w n a x g, λ g. stored_back r i s t renaming w n a x g)
