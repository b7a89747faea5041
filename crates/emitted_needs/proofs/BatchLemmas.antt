-- The batches of the loops of a template are those of its program.
use Rattle.std.proofs.Common.{◌≡◌, ℕ, List, Option, Some, None, refl, sym, ap, ◌∙◌, subst}
use Rattle.std.specs.Prelude.{is_some, option_and_then, if◌then◌else◌}
use Rattle.template_parts.specs.declared.looping.Batches.{Batches}
use Rattle.template_parts.specs.declared.looping.Batches.TheVariants.{Parallel}
use Rattle.template_parts.specs.declared.looping.ResourceCopy.{ResourceCopy}
use Rattle.template_parts.specs.declared.mode.Form.{Form}
use Rattle.template_tree.specs.Tree.{TemplateTree}
use Rattle.deploy_cells.specs.Cells.{Position}
use Rattle.plan_cells.specs.Meaning.{Deployment}
use Rattle.plan_cells.specs.Needs.{copy_of}
use Rattle.plan_cells.specs.Resources.{resource_at}
use Rattle.plan_cells.specs.Scopes.{template_at, resource_of}
use Rattle.bicep_resolved.specs.Source.{LoopTree}
use Rattle.bicep_meaning.specs.Files.{SourceFile}
use Rattle.bicep_meaning.specs.Instances.{SourceProgram, file_at}
use Rattle.cell_renaming.specs.Renaming.{Renaming, to_position}
use Rattle.cell_renaming.proofs.CellLemmas.{to-from_position}
use Rattle.cell_renaming.proofs.OptionLemmas.{of_then}
use Rattle.source_needs.specs.Needs.{batches_by, batches_of}
use Rattle.source_worlds.specs.Numbers.{number_of, numbering}
use Rattle.source_worlds.proofs.NumberLemmas.{one_to_one}
use Rattle.emitted_worlds.specs.Values.{AreBoth}
use Rattle.emitted_worlds.specs.Files.{IsLoop, IsEmitted}
use Rattle.emitted_worlds.proofs.AbsentLemmas.{Match, scope_matches}
use Rattle.emitted_worlds.proofs.TemplateLemmas.{has_template}
use Rattle.emitted_programs.proofs.ResourceLemmas.{put_number}
use Rattle.emitted_needs.proofs.MentionLemmas.{looped_is}
use Rattle.emitted_needs.proofs.TargetLemmas.{target}

-- without a loop there is one batch
abbrev pub batches_in : Option ResourceCopy → Batches
batches_in None = Parallel
batches_in (Some c) = c.batches

loop_batches : (files : List SourceFile) (f : SourceFile) (n : ℕ) (o : Option LoopTree) (c : Option ResourceCopy)
    → AreBoth (IsLoop files f n) o c → batches_in c ≡ (if is_some o then f.batches n else Parallel)
loop_batches files f n None None h = refl
loop_batches files f n None (Some c) h = absurd h
loop_batches files f n (Some l) None h = absurd h
loop_batches files f n (Some l) (Some c) h = h.batches

module _ (z : Form) (d : SourceProgram) (t : Deployment) (h : IsEmitted z d.files t.template) where
  entry_batches : (f : SourceFile) (v : TemplateTree) → Match z d.files f v → (n k : ℕ) → number_of z f n ≡ Some k
      → batches_in (copy_of t (resource_at v k)) ≡ batches_by (Some f) n
  entry_batches f v match n k e =
      let a = target z d.files f v match n k e in
      ap (λ o. batches_in (copy_of t o)) a.is_listed
      ∙ loop_batches d.files f a.put.number a.put.body.each a.listed.declaration.copy a.is_resource.loop
      ∙ ap (λ m. if is_some a.put.body.each then f.batches m else Parallel) (put_number f n a.put a.is_of)
      ∙ ap (λ b. if b then f.batches n else Parallel) (sym (looped_is f n a.put a.is_of))

  abbrev r : Renaming
  r = numbering z d.files

  pub same_batches : (p q : Position) (n m : ℕ) → to_position r p ≡ Some q → r.number p n ≡ Some m
      → batches_in (copy_of t (resource_of t.template q m)) ≡ batches_of d p n
  same_batches p q n m at e =
      let f = of_then (file_at d.files p) (λ f. number_of z f n) m e in
      let v = has_template z d.files f.left (template_at t.template q)
      (subst (λ o. AreBoth (Match z d.files) o (template_at t.template q)) f.first
      (scope_matches z d.files t.template h q p (to-from_position r (one_to_one z d.files) p q at))) in
      ap (λ o. batches_in (copy_of t (option_and_then (λ v. resource_at v m) o))) v.is
      ∙ entry_batches f.left v.template v.matches n m f.made ∙ ap (λ o. batches_by o n) (sym f.first)
