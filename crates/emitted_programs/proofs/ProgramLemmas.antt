-- A template of a program says of desired states what the program says.
use Rattle.std.proofs.Common.{◌≡◌, ℕ, Bool, true, false, true≢false, List, map, Option, Some, None, refl, sym}
use Rattle.std.proofs.Common.{ap, ◌∙◌, subst}
use Rattle.std.specs.Prelude.{option_and_then, if◌then◌else◌}
use Rattle.foundation.proofs.Options.{same_some}
use Rattle.arm_value.specs.Json.{Json, bool}
use Rattle.arm_value.specs.Kinds.{is_true}
use Rattle.arm_value.specs.Look.{fold}
use Rattle.arm_ids.specs.Held.{HeldResource}
use Rattle.arm_ids.specs.Segments.{segments}
use Rattle.arm_ids.specs.declared.id.ResourceId.{ResourceId}
use Rattle.reading.specs.World.{value_in}
use Rattle.template_parameters.specs.Binding.{BoundMeaning}
use Rattle.template_parts.specs.declared.mode.Form.{Form}
use Rattle.template_tree.specs.Tree.{TemplateTree}
use Rattle.deploy_cells.specs.Cells.{Step, step, Position, Cell, parameter, variable, offered, output, count, included}
use Rattle.deploy_cells.specs.Cells.{name, deployments, state, World, is_admitted}
use Rattle.deploy_cells.specs.Listing.{listing_value}
use Rattle.deploy_cells.specs.Puts.{Kind, body_in}
use Rattle.deploy_cells.proofs.CellLemmas.{guarded_value}
use Rattle.plan_cells.specs.Desired as plan
use Rattle.plan_cells.specs.Meaning as template
use Rattle.plan_cells.specs.Resources.{nested_numbers}
use Rattle.plan_cells.specs.Scopes.{template_at, resource_of}
use Rattle.bicep_declared.specs.Declarations.{DeclaredTree}
use Rattle.bicep_declared.specs.Declarations as declarations
use Rattle.bicep_meaning.specs.Files.{SourceFile, declaration}
use Rattle.bicep_meaning.specs.Instances as program
use Rattle.bicep_meaning.specs.Instances.{SourceProgram, Put, put_of, put_by, file_at, desired}
use Rattle.bicep_emission.specs.Answered.{deployment_types}
use Rattle.cell_renaming.specs.Renaming.{Renaming, to_position, to_cell, IsRenamable}
use Rattle.cell_renaming.specs.Renamed.{IsEither}
use Rattle.cell_renaming.proofs.OptionLemmas.{of_both, of_map, of_then}
use Rattle.cell_renaming.proofs.ParentLemmas.{admitted_same}
use Rattle.declaration_laws.proofs.PartLemmas.{no_deployment}
use Rattle.source_worlds.specs.Numbers.{number_of, numbering}
use Rattle.source_worlds.specs.Template.{IsTemplateOf}
use Rattle.emitted_sites.specs.Files.{IsEmitted}
use Rattle.emitted_sites.proofs.AbsentLemmas.{Match, absent}
use Rattle.emitted_sites.proofs.KindLemmas.{kinds_same}
use Rattle.emitted_sites.specs.Facts.{HasOwnTypes, HoldsResources, HasFacts}
use Rattle.emitted_sites.proofs.FactLemmas.{facts as world_facts}
use Rattle.emitted_sites.proofs.ListLemmas.{counts_same}
use Rattle.emitted_sites.specs.Marks.{IsMarked}
use Rattle.emitted_sites.proofs.SiteLemmas.{unmarked_world}
use Rattle.emitted_programs.specs.Given.{IsBound, deployed}
use Rattle.emitted_programs.specs.Sound.{IsSoundProgram}
use Rattle.emitted_programs.proofs.AboveLemmas.{of_parameter, of_variable, of_offered, of_count, offered_scope}
use Rattle.emitted_programs.proofs.AboveLemmas.{counted_scope, included_admitted}
use Rattle.emitted_programs.proofs.ListingLemmas.{listing_same}
use Rattle.emitted_programs.proofs.OptionLemmas.{Side, Same, same_map, same_bodies}
use Rattle.emitted_programs.proofs.ParameterLemmas.{same_parameter}
use Rattle.emitted_programs.proofs.PlainLemmas.{plain_same}
use Rattle.emitted_programs.proofs.ResourceLemmas.{same_count, same_included, same_name, same_body}
use Rattle.emitted_programs.proofs.RuleLemmas.{truth_same, name_same, parameter_same, output_same}
use Rattle.emitted_programs.proofs.ScopeLemmas.{i, v, sw, t, matches, same_variable, same_offered, same_output}

-- ---- types of resources

type_by : (f : SourceFile) (n : ℕ) (b : Bool) (y a : Put) → program.unless_existing b y ≡ Some a
    → (map fold (segments y.kind.type) ≡ deployment_types → ⊥)
    → map fold (segments a.kind.type) ≡ deployment_types → ⊥
type_by f n true y a e h k = absurd cc
type_by f n false y a e h k = h (ap (λ (x : Put). map fold (segments x.kind.type)) (same_some e) ∙ k)

module _ (d : SourceProgram) (sound : IsSoundProgram d) where
  put_type : (p : Position) (f : SourceFile) → file_at d.files p ≡ Some f → (n : ℕ) (o : Option DeclaredTree) (a : Put)
      → declaration f n ≡ o → put_by f n o ≡ Some a → a.kind.is_deployment ≡ false
      → map fold (segments a.kind.type) ≡ deployment_types → ⊥
  put_type p f g n None a e h k c = absurd cc
  put_type p f g n (Some (declarations.parameter at ty)) a e h k c = absurd cc
  put_type p f g n (Some (declarations.parameter_with at ty x)) a e h k c = absurd cc
  put_type p f g n (Some (declarations.variable at x)) a e h k c = absurd cc
  put_type p f g n (Some (declarations.a_resource at q existing b)) a e h k c =
      type_by f n existing (record { number = n; body = b; kind = program.resource_kind f n }) a h
      (no_deployment (program.resource_kind f n).type
      ((sound.files p f g).declarations.types n at q existing b e)) c
  put_type p f g n (Some (declarations.a_module at b)) a e h k c =
      true≢false (ap (λ (x : Put). x.kind.is_deployment) (same_some h) ∙ k)

  pub own_types : HasOwnTypes d
  own_types p n k e g c =
      let y = of_map (option_and_then (put_of n) (file_at d.files p)) (λ (x : Put). x.kind) k e in
      let f = of_then (file_at d.files p) (put_of n) y.left y.first in
      put_type p f.left f.first n (declaration f.left n) y.left refl f.made
      (ap (λ (x : Kind). x.is_deployment) y.made ∙ g) (ap (λ (x : Kind). map fold (segments x.type)) y.made ∙ c)

module _ (z : Form) (d : SourceProgram) (u : TemplateTree) (bound : List (List ℕ × BoundMeaning))
    (m : IsEmitted z d.files u) (sound : IsSoundProgram d) (given : IsBound d u bound) (w : World)
    (marked : IsMarked z d w) where
  abbrev rw : Side
  rw = v z d u bound m sound w marked

  abbrev here : Side
  here = sw z d u bound m sound w marked

  abbrev dep : template.Deployment
  dep = t z d u bound m sound w marked

  abbrev rn : Renaming
  rn = numbering z d.files

  -- ---- nested deployments

  pub same_listing : (p q : Position) → to_position rn p ≡ Some q → is_admitted w (deployments p) ≡ true
      → Same rw here (template.raw dep (deployments q)) (program.raw d (deployments p))
  unfolding template.raw program.raw
  same_listing p q at is_open =
      same_map rw here (Match z d.files) (λ y. listing_value q (nested_numbers y)) (λ f. listing_value p f.modules)
      (file_at d.files p) (template_at u q) (matches z d u bound m sound w marked p q at is_open)
      (λ f y e k h. listing_same rn (i z d u bound m sound w marked) w marked.marks marked.are_marks.others p q at
      f.modules (nested_numbers y)
      (subst (λ o. map (λ n. option_and_then (λ f. number_of z f n) o) f.modules ≡ map (λ m. Some m) (nested_numbers y))
      (sym e) h.modules))

  -- ---- cells

  abbrev IsPlain : Cell → Cell → Type 0
  IsPlain c e = value_in rw.world (template.plain dep e) ≡ value_in w (program.plain d c)

  state_same : (k : ResourceId) → IsPlain (state k) (state k)
  unfolding template.plain program.plain value_in
  state_same k = refl

  parameter_cell : (p q : Position) (x : List ℕ) → to_position rn p ≡ Some q
      → is_admitted w (parameter p x) ≡ true → IsPlain (parameter p x) (parameter q x)
  parameter_cell p q x at a =
      let o = sym (of_parameter z d w marked.facts p x) ∙ a in
      plain_same dep d rw here (parameter p x) (parameter q x) refl refl
      (same_parameter z d u bound m sound given w marked p q at o x)
      (λ j. parameter_same dep d.files z x j (file_at d.files p) (template_at u q)
      (matches z d u bound m sound w marked p q at o))

  variable_cell : (p q : Position) (x : List ℕ) → to_position rn p ≡ Some q
      → is_admitted w (variable p x) ≡ true → IsPlain (variable p x) (variable q x)
  variable_cell p q x at a =
      plain_same dep d rw here (variable p x) (variable q x) refl refl
      (same_variable z d u bound m sound w marked p q at (sym (of_variable z d w marked.facts p x) ∙ a) x) (λ j. refl)

  offered_cell : (p q : Position) (x : List ℕ) → to_position rn p ≡ Some q
      → is_admitted w (offered p x) ≡ true → IsPlain (offered p x) (offered q x)
  offered_cell p q x at a =
      plain_same dep d rw here (offered p x) (offered q x) refl refl
      (same_offered z d u bound m sound w marked p q at (sym (of_offered z d w marked.facts p x) ∙ a) x) truth_same

  output_cell : (p q : Position) (x : List ℕ) → to_position rn p ≡ Some q
      → is_admitted w (output p x) ≡ true → IsPlain (output p x) (output q x)
  output_cell p q x at a =
      let o = offered_scope z d w marked.facts p x a in
      plain_same dep d rw here (output p x) (output q x) refl refl
      (same_output z d u bound m sound w marked p q at o x)
      (λ j. output_same dep d.files z x j (file_at d.files p) (template_at u q)
      (matches z d u bound m sound w marked p q at o))

  count_cell : (p q : Position) (n k : ℕ) → to_position rn p ≡ Some q → rn.number p n ≡ Some k
      → is_admitted w (count p n) ≡ true → IsPlain (count p n) (count q k)
  count_cell p q n k at number a =
      plain_same dep d rw here (count p n) (count q k) refl refl
      (same_count z d u bound m sound w marked p q at (sym (of_count z d w marked.facts p n) ∙ a) n k number)
      counts_same

  included_cell : (p q : Position) (s : Step) (k : ℕ) → to_position rn p ≡ Some q
      → rn.number p s.resource ≡ Some k → is_admitted w (included p s) ≡ true
      → IsPlain (included p s) (included q (step k s.copy))
  included_cell p q s k at number a =
      plain_same dep d rw here (included p s) (included q (step k s.copy)) refl refl
      (same_included z d u bound m sound w marked p q at (counted_scope z d w marked.facts p s a) s.resource k number
      s.copy a)
      truth_same

  name_cell : (p q : Position) (s : Step) (k : ℕ) → to_position rn p ≡ Some q
      → rn.number p s.resource ≡ Some k → is_admitted w (name p s) ≡ true
      → IsPlain (name p s) (name q (step k s.copy))
  name_cell p q s k at number a =
      plain_same dep d rw here (name p s) (name q (step k s.copy)) refl refl
      (same_name z d u bound m sound w marked p q at (counted_scope z d w marked.facts p s a) s.resource k number s.copy
      a)
      (λ j. name_same dep j (resource_of u q k)
      ∙ ap (program.is_name d.place j) (kinds_same z d dep m p q s.resource k at number))

  deployments_cell : (p q : Position) → to_position rn p ≡ Some q → is_admitted w (deployments p) ≡ true
      → IsPlain (deployments p) (deployments q)
  deployments_cell p q at a =
      plain_same dep d rw here (deployments p) (deployments q) refl refl (same_listing p q at a) (λ j. refl)

  cell_same : (c e : Cell) → to_cell rn c ≡ Some e → is_admitted w c ≡ true → IsPlain c e
  cell_same (parameter p x) e h a =
      let g = of_map (to_position rn p) (λ q. parameter q x) e h in
      subst (IsPlain (parameter p x)) g.made (parameter_cell p g.left x g.first a)
  cell_same (variable p x) e h a =
      let g = of_map (to_position rn p) (λ q. variable q x) e h in
      subst (IsPlain (variable p x)) g.made (variable_cell p g.left x g.first a)
  cell_same (offered p x) e h a =
      let g = of_map (to_position rn p) (λ q. offered q x) e h in
      subst (IsPlain (offered p x)) g.made (offered_cell p g.left x g.first a)
  cell_same (output p x) e h a =
      let g = of_map (to_position rn p) (λ q. output q x) e h in
      subst (IsPlain (output p x)) g.made (output_cell p g.left x g.first a)
  cell_same (count p n) e h a =
      let g = of_both (to_position rn p) (rn.number p n) (λ q k. count q k) e h in
      subst (IsPlain (count p n)) g.made (count_cell p g.left n g.right g.first g.second a)
  cell_same (included p s) e h a =
      let g = of_both (to_position rn p) (rn.number p s.resource) (λ q k. included q (step k s.copy)) e h in
      subst (IsPlain (included p s)) g.made (included_cell p g.left s g.right g.first g.second a)
  cell_same (name p s) e h a =
      let g = of_both (to_position rn p) (rn.number p s.resource) (λ q k. name q (step k s.copy)) e h in
      subst (IsPlain (name p s)) g.made (name_cell p g.left s g.right g.first g.second a)
  cell_same (deployments p) e h a =
      let g = of_map (to_position rn p) (λ q. deployments q) e h in
      subst (IsPlain (deployments p)) g.made (deployments_cell p g.left g.first a)
  cell_same (state k) e h a = subst (IsPlain (state k)) (same_some h) (state_same k)

  by_admitted : (c e : Cell) → to_cell rn c ≡ Some e → (b : Bool) → is_admitted w c ≡ b
      → (if b then value_in rw.world (template.plain dep e) else Some None)
      ≡ (if b then value_in w (program.plain d c) else Some None)
  by_admitted c e h true a = cell_same c e h a
  by_admitted c e h false a = refl

  pub means : (c e : Cell) → to_cell rn c ≡ Some e
      → value_in rw.world (template.meaning dep e) ≡ value_in w (program.meaning d c)
  unfolding template.meaning program.meaning
  means c e h =
      guarded_value rw.world e (template.plain dep e)
      ∙ ap (λ b. if b then value_in rw.world (template.plain dep e) else Some None)
      (admitted_same rn (i z d u bound m sound w marked) w c e h)
      ∙ by_admitted c e h (is_admitted w c) refl
      ∙ sym (guarded_value w c (program.plain d c))

  pub bodies : (p q : Position) (n k j : ℕ) (kind : Kind) → to_position rn p ≡ Some q → rn.number p n ≡ Some k
      → program.kinds d p n ≡ Some kind → kind.is_deployment ≡ false
      → w (included p (step n j)) ≡ Some (bool true)
      → body_in rw.world (template.bodies dep q (step k j)) ≡ body_in w (program.bodies d p (step n j))
  bodies p q n k j kind at number e own c =
      let a = included_admitted z d w marked.facts p (step n j) (ap is_true c) in
      same_bodies rw here (template.bodies dep q (step k j)) (program.bodies d p (step n j))
      (same_body z d u bound m sound w marked p q at (counted_scope z d w marked.facts p (step n j) a) n k number j a
      kind e own)

pub program_law : (z : Form) (d : SourceProgram) (u : TemplateTree) (bound : List (List ℕ × BoundMeaning))
    (opening : ResourceId → Option Json) (held : List HeldResource) → IsEmitted z d.files u → IsSoundProgram d
    → IsBound d u bound → HoldsResources opening → ((k : ResourceId) → plan.held_state held k ≡ opening k)
    → IsTemplateOf z d opening (plan.desired (deployed d u bound) held)
program_law z d u bound opening held m sound given holds same = record {
  place = refl;
  held = same;
  means = λ w n e c x h. means z d u bound m sound given w (unmarked_world z d w (facts_of w n e)) c x h;
  bodies = λ w n e p q a b j kind at number k own c. bodies z d u bound m sound given w
      (unmarked_world z d w (facts_of w n e)) p q a b j kind at number k own c;
  kinds = λ p q a b at number. kinds_same z d (deployed d u bound) m p q a b at number;
  undeclared = λ w c k a. absent z d.files (deployed d u bound) m w c k a;
}
  where
    facts_of : (w : World) → IsRenamable (numbering z d.files) w
        → IsEither (numbering z d.files) (desired d opening) (plan.desired (deployed d u bound) held) w
        → HasFacts z d w
    facts_of w n e =
        world_facts z d (deployed d u bound) opening held m (own_types d sound) holds (λ k h. same k ∙ holds k h) w n e
