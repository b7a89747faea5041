-- A task needs another in a template exactly where it does in the program.
use Rattle.std.proofs.Common.{◌≡◌, ℕ, Bool, List, Some, ap, ◌∙◌}
use Rattle.arm_ids.specs.Held.{HeldResource}
use Rattle.reading.specs.World.{value_in}
use Rattle.template_parameters.specs.Binding.{BoundMeaning}
use Rattle.template_parts.specs.declared.mode.Form.{Form}
use Rattle.template_tree.specs.Tree.{TemplateTree}
use Rattle.deploy_cells.specs.Cells.{World}
use Rattle.plan_cells.specs.Desired.{held_state}
use Rattle.plan_cells.specs.Meaning.{Deployment}
use Rattle.plan_cells.specs.Needs as plan
use Rattle.plan_cells.specs.Tasks.{Task}
use Rattle.bicep_meaning.specs.Instances.{SourceProgram, Satisfies}
use Rattle.cell_renaming.specs.Renaming.{renamed}
use Rattle.source_needs.specs.Needs.{SourceNeeds, by_mention, by_values, by_order, by_batch}
use Rattle.source_needs.specs.Tasks.{IsTask}
use Rattle.source_worlds.specs.Numbers.{numbering}
use Rattle.emitted_programs.specs.Given.{IsDeployed, deployed}
use Rattle.emitted_needs.specs.Needs as template
use Rattle.emitted_needs.specs.Needs.{Needs}
use Rattle.emitted_needs.specs.Symbols.{HaveSymbols}
use Rattle.emitted_needs.specs.Tasks.{to_task}
use Rattle.emitted_needs.proofs.RuleLemmas.{after_true, batches_true, mention_true, rule_back}
use Rattle.emitted_needs.proofs.ValueLemmas.{reads_forth, reads_back}

module _ (z : Form) (d : SourceProgram) (u : TemplateTree) (bound : List (List ℕ × BoundMeaning))
    (held : List HeldResource) (h : IsDeployed z d u bound held) (w : World)
    (satisfied : Satisfies d (held_state held) w) (symbols : HaveSymbols d) (x y a b : Task)
    (e : to_task (numbering z d.files) x ≡ Some a) (f : to_task (numbering z d.files) y ≡ Some b)
    (is_task : IsTask d w x) (other_task : IsTask d w y) where
  abbrev rw : World
  rw = renamed (numbering z d.files) w

  abbrev dep : Deployment
  dep = deployed d u bound

  pub needs_forth : (answer : Bool) → value_in rw (plan.needs dep a b) ≡ Some answer
      → SourceNeeds z d w x y → Needs dep rw a b
  needs_forth answer g (by_values k) =
      template.by_values (reads_forth z d u bound held h w satisfied y b f other_task x a e is_task k)
  needs_forth answer g (by_order k) =
      template.by_rule
      (g ∙ ap (λ c. Some c)
      (after_true z d u bound held h w satisfied symbols x y a b e f is_task other_task answer g k))
  needs_forth answer g (by_batch p s t o k l) =
      template.by_rule
      (g ∙ ap (λ c. Some c)
      (batches_true z d u bound held h w satisfied symbols x y a b e f is_task other_task answer g p s t o k l))
  needs_forth answer g (by_mention p s t o k) =
      template.by_rule
      (g ∙ ap (λ c. Some c)
      (mention_true z d u bound held h w satisfied symbols x y a b e f is_task other_task answer g p s t o k))

  pub needs_back : Needs dep rw a b → SourceNeeds z d w x y
  needs_back (template.by_values k) =
      by_values (reads_back z d u bound held h w satisfied y b f other_task x a e is_task k)
  needs_back (template.by_rule k) =
      rule_back z d u bound held h w satisfied symbols x y a b e f is_task other_task k
