-- The facts of worlds whose renaming is desired of the template of a program.
use Rattle.std.proofs.Common.{◌≡◌, ℕ, nat_le, Bool, true, false, List, ◌∷◌, Option, Some, None, refl, sym, ap}
use Rattle.std.proofs.Common.{◌∙◌, subst}
use Rattle.std.specs.Prelude.{option_map, option_and_then, if◌then◌else◌}
use Rattle.arm_value.specs.Json.{Json, bool}
use Rattle.arm_ids.specs.Held.{HeldResource}
use Rattle.arm_ids.specs.declared.id.ResourceId.{ResourceId}
use Rattle.template_parts.specs.declared.mode.Form.{Form}
use Rattle.deploy_cells.specs.Cells.{Step, step, Position, Cell, parameter, variable, output, count, included, name}
use Rattle.deploy_cells.specs.Cells.{deployments, state, World, copies, is_admitted}
use Rattle.deploy_cells.specs.Guarded.{Reads}
use Rattle.deploy_cells.specs.Listing.{listing_value}
use Rattle.deploy_cells.specs.Puts.{IsDesired, IsPutAt}
use Rattle.plan_cells.specs.Desired as template
use Rattle.plan_cells.specs.Meaning.{Deployment}
use Rattle.plan_cells.specs.Meaning as plan
use Rattle.plan_cells.specs.Resources.{Listed, nested_numbers, resource_at}
use Rattle.plan_cells.specs.Scopes.{template_at, resource_of}
use Rattle.plan_cells.specs.Sites as sites
use Rattle.plan_cells.proofs.DesiredLemmas as desired
use Rattle.bicep_meaning.specs.Files.{SourceFile}
use Rattle.bicep_meaning.specs.Instances as program
use Rattle.bicep_meaning.specs.Instances.{SourceProgram, file_at}
use Rattle.bicep_emission.specs.Answered.{deployment_types}
use Rattle.cell_renaming.specs.Renaming.{Renaming, IsOneToOne, to_position, from_position, to_cell, from_cell, renamed}
use Rattle.cell_renaming.specs.Renaming.{IsRenamable, resource_at as number_at}
use Rattle.cell_renaming.proofs.OptionLemmas.{Either, there, nowhere, either, of_both, to_both, of_then}
use Rattle.cell_renaming.proofs.CellLemmas.{to-from_position, from-to_position, resource_known}
use Rattle.cell_renaming.proofs.ParentLemmas.{renamed_is, admitted_same}
use Rattle.source_worlds.specs.Numbers.{number_of, numbering}
use Rattle.source_worlds.proofs.NumberLemmas.{one_to_one, there as there_number}
use Rattle.emitted_files.specs.Values.{AreBoth}
use Rattle.emitted_files.specs.Files.{IsResource, IsEmitted}
use Rattle.emitted_files.proofs.AbsentLemmas.{Match, scope_matches, resource_matches}
use Rattle.emitted_files.proofs.KindLemmas.{kinds_same}
use Rattle.emitted_worlds.specs.Facts.{HasOwnTypes, HoldsResources, IsListing, HasName, HasFacts}
use Rattle.emitted_worlds.proofs.ListLemmas.{lists, few_copies, counts_same, template_name, is_opened, numbered_put}
use Rattle.emitted_worlds.proofs.TemplateLemmas.{no_parameter, no_variable, no_output, as_many, has_template}
use Rattle.emitted_worlds.proofs.TemplateLemmas.{some_resource}

module _ (z : Form) (d : SourceProgram) (t : Deployment) (held : List HeldResource)
    (m : IsEmitted z d.files t.template) (own : HasOwnTypes d) (holds : HoldsResources (template.held_state held))
    (w : World) (n : IsRenamable (numbering z d.files) w)
    (h : IsDesired (template.desired t held) (renamed (numbering z d.files) w)) where
  abbrev r : Renaming
  r = numbering z d.files

  i : IsOneToOne r
  i = one_to_one z d.files

  abbrev v : World
  v = renamed r w

  is_new : (c e : Cell) → to_cell r c ≡ Some e → v e ≡ None → w c ≡ None
  is_new c e g k = sym (renamed_is r i w c e g) ∙ k

  closed_by : (c : Cell) → is_admitted w c ≡ false → Either (to_cell r c) → w c ≡ None
  closed_by c a (nowhere e) = n c e
  closed_by c a (there e g) =
      is_new c e g (desired.not_admitted t v h.is_world e (admitted_same r i w c e g ∙ a))

  none_declared : (c e : Cell) → to_cell r c ≡ Some e → plan.raw t e ≡ None → template.is_state e ≡ false → w c ≡ None
  none_declared c e g k s = is_new c e g (desired.by_admitted t v h.is_world e k s (is_admitted v e) refl)

  matches : (p q : Position) → to_position r p ≡ Some q
      → AreBoth (Match z d.files) (file_at d.files p) (template_at t.template q)
  matches p q e = scope_matches z d.files t.template m q p (to-from_position r i p q e)

  if_own : {A B : Type 0} (b : Bool) (g : A → Option B) (o : Option A) → o ≡ None
      → (if b then option_and_then g o else None) ≡ None
  if_own true g o e = ap (option_and_then g) e
  if_own false g o e = refl

  parameter_by : (p : Position) (x : List ℕ) → option_and_then (program.parameter_named x) (file_at d.files p) ≡ None
      → Either (to_position r p) → w (parameter p x) ≡ None
  unfolding plan.raw
  parameter_by p x e (nowhere g) = n (parameter p x) (ap (option_map (λ q. parameter q x)) g)
  parameter_by p x e (there q g) =
      none_declared (parameter p x) (parameter q x) (ap (option_map (λ q. parameter q x)) g)
      (if_own (plan.is_own t q) _ (option_and_then (sites.parameter_named x) (template_at t.template q))
      (no_parameter z d.files x (file_at d.files p) (template_at t.template q) (matches p q g) e)) refl

  variable_by : (p : Position) (x : List ℕ) → option_and_then (program.variable_named x) (file_at d.files p) ≡ None
      → Either (to_position r p) → w (variable p x) ≡ None
  unfolding plan.raw
  variable_by p x e (nowhere g) = n (variable p x) (ap (option_map (λ q. variable q x)) g)
  variable_by p x e (there q g) =
      none_declared (variable p x) (variable q x) (ap (option_map (λ q. variable q x)) g)
      (if_own (plan.is_own t q) _ (option_and_then (sites.variable_named x) (template_at t.template q))
      (no_variable z d.files x (file_at d.files p) (template_at t.template q) (matches p q g) e)) refl

  output_by : (p : Position) (x : List ℕ) → option_and_then (λ f. program.output_folded f x) (file_at d.files p) ≡ None
      → Either (to_position r p) → w (output p x) ≡ None
  unfolding plan.raw
  output_by p x e (nowhere g) = n (output p x) (ap (option_map (λ q. output q x)) g)
  output_by p x e (there q g) =
      none_declared (output p x) (output q x) (ap (option_map (λ q. output q x)) g)
      (ap (option_and_then _)
      (no_output z d.files x (file_at d.files p) (template_at t.template q) (matches p q g) e)) refl

  count_in : (q : Position) (k : ℕ) (o : Option (Reads Json)) → plan.raw t (count q k) ≡ o → (b : Bool)
      → is_admitted v (count q k) ≡ b → nat_le (copies (v (count q k))) 800 ≡ true
  count_in q k o e false a =
      ap (λ o. nat_le (copies o) 800) (desired.not_admitted t v h.is_world (count q k) a)
  count_in q k None e true a =
      ap (λ o. nat_le (copies o) 800) (desired.by_admitted t v h.is_world (count q k) e refl true a)
  count_in q k (Some x) e true a =
      let g = desired.valued t v h.is_world (count q k) refl x e a in
      ap (λ o. nat_le (copies o) 800) g.has ∙ few_copies g.value (sym (counts_same g.value) ∙ g.meets)

  count_by : (p : Position) (k : ℕ) → Either (to_cell r (count p k)) → nat_le (copies (w (count p k))) 800 ≡ true
  count_by p k (nowhere e) = ap (λ o. nat_le (copies o) 800) (n (count p k) e)
  count_by p k (there e g) =
      let b = of_both (to_position r p) (r.number p k) (λ q m. count q m) e g in
      ap (λ o. nat_le (copies o) 800) (sym (renamed_is r i w (count p k) e g) ∙ ap v (sym b.made))
      ∙ count_in b.left b.right (plan.raw t (count b.left b.right)) refl (is_admitted v (count b.left b.right)) refl

  listing_is : (p q : Position) (f : SourceFile) → to_position r p ≡ Some q → file_at d.files p ≡ Some f
      → is_admitted w (deployments p) ≡ true → IsListing f (w (deployments p))
  unfolding plan.raw
  listing_is p q f g e a =
      let c : to_cell r (deployments p) ≡ Some (deployments q) = ap (option_map (λ q. deployments q)) g in
      let u = has_template z d.files f (template_at t.template q)
      (subst (λ o. AreBoth (Match z d.files) o (template_at t.template q)) e (matches p q g)) in
      let x = desired.valued t v h.is_world (deployments q) refl (listing_value q (nested_numbers u.template))
      (ap (option_map (λ t. listing_value q (nested_numbers t))) u.is)
      (admitted_same r i w (deployments p) (deployments q) c ∙ a) in
      let l = lists v q (nested_numbers u.template) x.value x.is_read in
      record {
        listed = l.listed;
        is = sym (renamed_is r i w (deployments p) (deployments q) c) ∙ x.has ∙ ap (λ j. Some j) l.is;
        each = l.each ∙ as_many z d.files f u.template u.matches;
      }

  -- the resource of a symbol with a number
  resource_there : (p q : Position) (f : SourceFile) (n k : ℕ) → to_position r p ≡ Some q
      → file_at d.files p ≡ Some f → number_of z f n ≡ Some k
      → (x : Listed) × (resource_of t.template q k ≡ Some x)
  resource_there p q f n k e g s =
      let u = has_template z d.files f (template_at t.template q)
      (subst (λ o. AreBoth (Match z d.files) o (template_at t.template q)) g (matches p q e)) in
      let y = numbered_put z f n k s in
      let x = some_resource z d.files f y.0 (resource_at u.template k)
      (subst (λ o. AreBoth (IsResource d.files f) o (resource_at u.template k)) y.1
      (resource_matches z d.files f u.template u.matches k (Some n) (there_number z f n k s))) in
      (x.0, ap (option_and_then (λ v. resource_at v k)) u.is ∙ x.1)

  name_of : (p q : Position) (s : Step) (x : Listed) → resource_of t.template q s.resource ≡ Some x
      → is_admitted v (name q s) ≡ true → HasName (v (name q s))
  unfolding plan.raw
  name_of p q s x e a =
      let g = desired.valued t v h.is_world (name q s) refl (plan.name_value t q s x)
      (ap (option_map (plan.name_value t q s)) e) a in
      let n = template_name t g.value (resource_of t.template q s.resource) g.meets in
      record { title = n.0; is = g.has ∙ ap (λ j. Some j) n.1 }

  name_is : (p q : Position) (s : Step) → to_position r (s ∷ p) ≡ Some q
      → is_admitted w (deployments (s ∷ p)) ≡ true → (b : Bool) → is_admitted w (name p s) ≡ b
      → HasName (w (name p s))
  name_is p q s g a false c =
      absurd (is_opened (w (included p s)) (closed_by (included p s) c (either (to_cell r (included p s)))) a)
  name_is p q s g a true c =
      let b = of_both (to_position r p) (r.number p s.resource) (λ q m. step m s.copy ∷ q) q g in
      let e : to_cell r (name p s) ≡ Some (name b.left (step b.right s.copy)) =
      to_both (to_position r p) (r.number p s.resource) (λ q m. name q (step m s.copy)) b.left b.right b.first
      b.second in
      let f = of_then (file_at d.files p) (λ f. number_of z f s.resource) b.right b.second in
      let x = resource_there p b.left f.left s.resource b.right b.first f.first f.made in
      let y = name_of p b.left (step b.right s.copy) x.0 x.1
      (admitted_same r i w (name p s) (name b.left (step b.right s.copy)) e ∙ c) in
      record {
        title = y.title;
        is = sym (renamed_is r i w (name p s) (name b.left (step b.right s.copy)) e) ∙ y.is;
      }

  not_put : (k : ResourceId) → k.types ≡ deployment_types → IsPutAt t.place (template.kinds t) v k → ⊥
  not_put k e g =
      let c = of_then (from_cell r (included g.at g.instance)) w (bool true)
      g.is_put.is_included.has_condition in
      let b = of_both (from_position r g.at) (number_at r g.at g.instance.resource)
      (λ p n. included p (step n g.instance.copy)) c.left c.first in
      let a = i.back b.left g.instance.resource b.right
      (sym (resource_known r i (from_position r g.at) b.left g.instance.resource b.first) ∙ b.second) in
      own b.left b.right g.kind
      (sym
      (kinds_same z d t m b.left g.at b.right g.instance.resource (from-to_position r i g.at b.left b.first) a)
      ∙ g.is_put.is_included.is_declared) g.is_put.is_resource (ap (λ (i : ResourceId). i.types) g.has_key ∙ e)

  pub by_template : HasFacts z d w
  by_template = record {
    closed = λ c a. closed_by c a (either (to_cell r c));
    parameters = λ p x e. parameter_by p x e (either (to_position r p));
    variables = λ p x e. variable_by p x e (either (to_position r p));
    outputs = λ p x e. output_by p x e (either (to_position r p));
    listing = listing_is;
    counts = λ p k. count_by p k (either (to_cell r (count p k)));
    names = λ p q s g a. name_is p q s g a (is_admitted w (name p s)) refl;
    states =
        λ k e. is_new (state k) (state k) refl (h.others_are_held k (not_put k e) ∙ holds k e);
  }
