-- What is read for each cell of a template is what is read for that of its program.
use Rattle.std.proofs.Common.{◌≡◌, ℕ, true, false, true≢false, List, Some, sym, ap, ◌∙◌, subst}
use Rattle.arm_value.specs.Json.{bool}
use Rattle.arm_value.specs.Kinds.{is_true}
use Rattle.arm_ids.specs.Held.{HeldResource}
use Rattle.template_parameters.specs.Binding.{BoundMeaning}
use Rattle.template_parts.specs.declared.mode.Form.{Form}
use Rattle.template_tree.specs.Tree.{TemplateTree}
use Rattle.deploy_cells.specs.Cells.{step, Position, Cell, parameter, variable, offered, output, count, included}
use Rattle.deploy_cells.specs.Cells.{name, deployments, state, World, is_admitted}
use Rattle.deploy_cells.specs.Puts.{Kind}
use Rattle.plan_cells.specs.Desired.{held_state, is_state}
use Rattle.plan_cells.specs.Meaning as template
use Rattle.plan_cells.specs.Meaning.{Deployment}
use Rattle.bicep_meaning.specs.Instances as program
use Rattle.bicep_meaning.specs.Instances.{SourceProgram}
use Rattle.cell_renaming.specs.Renamed.{as_it_is}
use Rattle.cell_renaming.specs.Renaming.{Renaming, to_position, to_cell}
use Rattle.cell_renaming.proofs.OptionLemmas.{of_both, of_map}
use Rattle.source_worlds.specs.Numbers.{numbering}
use Rattle.emitted_sites.specs.Files.{IsEmitted}
use Rattle.emitted_sites.specs.Facts.{HasFacts}
use Rattle.emitted_sites.proofs.FactLemmas.{facts}
use Rattle.emitted_sites.specs.Marks.{Marks, AreMarks, IsMarked}
use Rattle.emitted_programs.specs.Alike.{AreAlike}
use Rattle.emitted_programs.specs.Given.{IsBound, IsDeployed, deployed}
use Rattle.emitted_programs.specs.Sound.{IsSoundProgram}
use Rattle.emitted_programs.proofs.AboveLemmas.{of_parameter, of_variable, of_offered, of_count, offered_scope}
use Rattle.emitted_programs.proofs.AboveLemmas.{counted_scope, included_admitted}
use Rattle.emitted_programs.proofs.BindingLemmas.{bindings}
use Rattle.emitted_programs.proofs.OptionLemmas.{Same}
use Rattle.emitted_programs.proofs.ParameterLemmas.{same_parameter}
use Rattle.emitted_programs.proofs.ProgramLemmas.{own_types, same_listing}
use Rattle.emitted_programs.proofs.ResourceLemmas.{same_count, same_included, same_name, same_body}
use Rattle.emitted_programs.proofs.SameLemmas.{same_forth}
use Rattle.emitted_programs.proofs.ScopeLemmas.{v, sw, t, same_variable, same_offered, same_output}

module _ (z : Form) (d : SourceProgram) (u : TemplateTree) (bound : List (List ℕ × BoundMeaning))
    (m : IsEmitted z d.files u) (sound : IsSoundProgram d) (given : IsBound d u bound) (w : World)
    (marked : IsMarked z d w) where
  abbrev rn : Renaming
  rn = numbering z d.files

  abbrev dep : Deployment
  dep = t z d u bound m sound w marked

  abbrev Reads_alike : Cell → Cell → Type 0
  Reads_alike c e =
      Same (v z d u bound m sound w marked) (sw z d u bound m sound w marked) (template.raw dep e) (program.raw d c)

  pub raw_alike : (c e : Cell) → to_cell rn c ≡ Some e → is_state c ≡ false → is_admitted w c ≡ true → Reads_alike c e
  raw_alike (parameter p x) e h s a =
      let g = of_map (to_position rn p) (λ q. parameter q x) e h in
      subst (Reads_alike (parameter p x)) g.made
      (same_parameter z d u bound m sound given w marked p g.left g.first
      (sym (of_parameter z d w marked.facts p x) ∙ a) x)
  raw_alike (variable p x) e h s a =
      let g = of_map (to_position rn p) (λ q. variable q x) e h in
      subst (Reads_alike (variable p x)) g.made
      (same_variable z d u bound m sound w marked p g.left g.first
      (sym (of_variable z d w marked.facts p x) ∙ a) x)
  raw_alike (offered p x) e h s a =
      let g = of_map (to_position rn p) (λ q. offered q x) e h in
      subst (Reads_alike (offered p x)) g.made
      (same_offered z d u bound m sound w marked p g.left g.first (sym (of_offered z d w marked.facts p x) ∙ a) x)
  raw_alike (output p x) e h s a =
      let g = of_map (to_position rn p) (λ q. output q x) e h in
      subst (Reads_alike (output p x)) g.made
      (same_output z d u bound m sound w marked p g.left g.first (offered_scope z d w marked.facts p x a) x)
  raw_alike (count p n) e h s a =
      let g = of_both (to_position rn p) (rn.number p n) (λ q k. count q k) e h in
      subst (Reads_alike (count p n)) g.made
      (same_count z d u bound m sound w marked p g.left g.first (sym (of_count z d w marked.facts p n) ∙ a) n g.right
      g.second)
  raw_alike (included p i) e h s a =
      let g = of_both (to_position rn p) (rn.number p i.resource) (λ q k. included q (step k i.copy)) e h in
      subst (Reads_alike (included p i)) g.made
      (same_included z d u bound m sound w marked p g.left g.first (counted_scope z d w marked.facts p i a) i.resource
      g.right g.second i.copy a)
  raw_alike (name p i) e h s a =
      let g = of_both (to_position rn p) (rn.number p i.resource) (λ q k. name q (step k i.copy)) e h in
      subst (Reads_alike (name p i)) g.made
      (same_name z d u bound m sound w marked p g.left g.first (counted_scope z d w marked.facts p i a) i.resource
      g.right g.second i.copy a)
  raw_alike (deployments p) e h s a =
      let g = of_map (to_position rn p) (λ q. deployments q) e h in
      subst (Reads_alike (deployments p)) g.made
      (same_listing z d u bound m sound given w marked p g.left g.first a)
  raw_alike (state k) e h s a = absurd (true≢false s)

  pub body_alike : (p q : Position) (n k j : ℕ) (kind : Kind) → to_position rn p ≡ Some q → rn.number p n ≡ Some k
      → program.kinds d p n ≡ Some kind → kind.is_deployment ≡ false
      → w (included p (step n j)) ≡ Some (bool true)
      → Same (v z d u bound m sound w marked) (sw z d u bound m sound w marked) (template.bodies dep q (step k j))
      (program.bodies d p (step n j))
  body_alike p q n k j kind at number e own c =
      let a = included_admitted z d w marked.facts p (step n j) (ap is_true c) in
      same_body z d u bound m sound w marked p q at (counted_scope z d w marked.facts p (step n j) a) n k number j a
      kind e own

-- ---- in a world that satisfies the program

module _ (z : Form) (d : SourceProgram) (u : TemplateTree) (bound : List (List ℕ × BoundMeaning))
    (held : List HeldResource) (h : IsDeployed z d u bound held) (w : World)
    (satisfied : program.Satisfies d (held_state held) w) where
  pub deployed_facts : HasFacts z d w
  deployed_facts =
      facts z d (deployed d u bound) (held_state held) held h.emitted (own_types d h.sound) h.holds h.holds w
      (same_forth z d u bound held h w satisfied).0 (as_it_is satisfied)

  module _ (x : Marks) (are : AreMarks z d x) where
    abbrev is_marked : IsMarked z d w
    is_marked = record { facts = deployed_facts; marks = x; are_marks = are }

    pub deployed_alike : (c e : Cell) → to_cell (numbering z d.files) c ≡ Some e → is_state c ≡ false
        → is_admitted w c ≡ true
        → AreAlike z d w x (template.raw (deployed d u bound) e) (program.raw d c)
    deployed_alike c e g s a =
        raw_alike z d u bound h.emitted h.sound (bindings d u bound h.binding) w is_marked c e g s a

    pub deployed_bodies : (p q : Position) (n k j : ℕ) (kind : Kind) → to_position (numbering z d.files) p ≡ Some q
        → (numbering z d.files).number p n ≡ Some k → program.kinds d p n ≡ Some kind → kind.is_deployment ≡ false
        → w (included p (step n j)) ≡ Some (bool true)
        → AreAlike z d w x (template.bodies (deployed d u bound) q (step k j)) (program.bodies d p (step n j))
    deployed_bodies p q n k j kind at number e own c =
        body_alike z d u bound h.emitted h.sound (bindings d u bound h.binding) w is_marked p q n k j kind at number e
        own c
