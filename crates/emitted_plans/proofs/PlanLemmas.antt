-- The needs that a plan of a template lists are those of its program.
use Rattle.std.proofs.Common.{◌≡◌, ◌⊎◌, inl, inr, ℕ, true, List, Some, ap, ◌∙◌, subst}
use Rattle.std.specs.Prelude.{slice_get}
use Rattle.arm_ids.specs.Held.{HeldResource}
use Rattle.reading.specs.World.{value_in}
use Rattle.template_parameters.specs.Binding.{BoundMeaning}
use Rattle.template_parts.specs.declared.mode.Form.{Form}
use Rattle.template_parts.specs.declared.mode.Mode.{Mode}
use Rattle.template_tree.specs.Tree.{TemplateTree}
use Rattle.deploy_cells.specs.Cells.{World}
use Rattle.plan_cells.specs.Desired.{held_state}
use Rattle.plan_cells.specs.Meaning.{Deployment}
use Rattle.plan_cells.specs.Needs as plan
use Rattle.plan_cells.specs.Plan.{Need, IsListed, IsNeedOf, IsPlan}
use Rattle.plan_cells.specs.Start.{IsSo}
use Rattle.plan_cells.specs.Tasks.{Task, Work}
use Rattle.plan_cells.proofs.PlanLemmas.{same_needs}
use Rattle.bicep_meaning.specs.Instances.{SourceProgram, Satisfies}
use Rattle.cell_renaming.specs.Renaming.{renamed}
use Rattle.source_needs.specs.Given.{ReadsFrom}
use Rattle.source_needs.specs.Needs.{SourceNeeds, by_mention, by_values, by_order, by_batch}
use Rattle.source_needs.specs.Tasks.{IsTask}
use Rattle.source_worlds.specs.Numbers.{numbering}
use Rattle.emitted_programs.specs.Given.{IsDeployed, deployed}
use Rattle.emitted_programs.proofs.SameLemmas.{same_forth}
use Rattle.emitted_needs.specs.Symbols.{HaveSymbols}
use Rattle.emitted_needs.specs.Tasks.{to_task}
use Rattle.emitted_needs.proofs.RuleLemmas.{after_true, batches_true, mention_true, rule_back}

module _ (z : Form) (d : SourceProgram) (u : TemplateTree) (bound : List (List ℕ × BoundMeaning))
    (held : List HeldResource) (h : IsDeployed z d u bound held) (symbols : HaveSymbols d)
    (mode : Mode) (k : Work) (ns : List Need) (planned : IsPlan (deployed d u bound) mode held k ns) (w : World)
    (satisfied : Satisfies d (held_state held) w) (i j : ℕ) (x y a b : Task)
    (first : slice_get k.tasks i ≡ Some a) (second : slice_get k.tasks j ≡ Some b)
    (e : to_task (numbering z d.files) x ≡ Some a) (f : to_task (numbering z d.files) y ≡ Some b)
    (is_task : IsTask d w x) (other_task : IsTask d w y) where
  abbrev rw : World
  rw = renamed (numbering z d.files) w

  abbrev dep : Deployment
  dep = deployed d u bound

  need : IsNeedOf dep planned.table ns i j a b
  need = planned.has_needs i j a b first second

  -- what is told at the start is so
  told_value : value_in rw (plan.needs dep a b) ≡ Some need.answer
  told_value =
      subst (IsSo rw (plan.needs dep a b)) need.is_told
      (same_needs dep held planned.table planned.is_start rw (same_forth z d u bound held h w satisfied).1 a b)

  pub listed_forth : IsListed (i, j) ns → SourceNeeds z d w x y
  listed_forth l =
      rule_back z d u bound held h w satisfied symbols x y a b e f is_task other_task
      (told_value ∙ ap (λ c. Some c) (need.listed.1 l))

  listed_if : need.answer ≡ true → IsListed (i, j) ns ⊎ ReadsFrom d w x y
  listed_if c = inl (need.listed.0 c)

  pub listed_back : SourceNeeds z d w x y → IsListed (i, j) ns ⊎ ReadsFrom d w x y
  listed_back (by_values c) = inr c
  listed_back (by_order c) =
      listed_if
      (after_true z d u bound held h w satisfied symbols x y a b e f is_task other_task need.answer told_value c)
  listed_back (by_batch p s t o c g) =
      listed_if
      (batches_true z d u bound held h w satisfied symbols x y a b e f is_task other_task need.answer told_value p s
      t o c g)
  listed_back (by_mention p s t o c) =
      listed_if
      (mention_true z d u bound held h w satisfied symbols x y a b e f is_task other_task need.answer told_value p s
      t o c)
