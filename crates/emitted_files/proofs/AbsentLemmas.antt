-- A cell of a template of a program that the program does not have is not there.
use Rattle.std.proofs.Common.{◌≡◌, ℕ, Bool, true, false, List, [], ◌∷◌, Option, Some, None}
use Rattle.std.proofs.Common.{refl, ap, ◌∙◌, subst, arith}
use Rattle.std.specs.Prelude.{option_map, option_and_then, if◌then◌else◌}
use Rattle.foundation.proofs.Comparisons.{none_below}
use Rattle.foundation.proofs.Options.{none_mapped}
use Rattle.arm_value.specs.Json.{Json}
use Rattle.reading.specs.World.{value_in}
use Rattle.template_parts.specs.declared.mode.Form.{Form}
use Rattle.template_tree.specs.Tree.{TemplateTree}
use Rattle.deploy_cells.specs.Cells.{Step, step, Position, Cell, parameter, variable, offered, output, count, included}
use Rattle.deploy_cells.specs.Cells.{name, deployments, state, World, opener, parent, admits, admitted, is_admitted}
use Rattle.deploy_cells.specs.Guarded.{Reads, guarded, there_if}
use Rattle.deploy_cells.proofs.CellLemmas.{guarded_value}
use Rattle.plan_cells.specs.Resources.{resource_at}
use Rattle.plan_cells.specs.Scopes.{template_at, resource_of}
use Rattle.plan_cells.specs.Meaning.{Deployment, count_value, ruled, rule, raw, plain, meaning}
use Rattle.source_needs.specs.Files.{SourceFile}
use Rattle.source_needs.specs.Instances.{put_of, file_at}
use Rattle.cell_renaming.specs.Renaming.{with_both, from_position, resource_by, resource_at as number_at}
use Rattle.cell_renaming.specs.Renaming.{from_cell}
use Rattle.cell_renaming.proofs.OptionLemmas.{Either, there, nowhere, either}
use Rattle.source_needs.specs.Numbers.{symbol_of, numbering}
use Rattle.emitted_files.specs.Values.{AreBoth}
use Rattle.emitted_files.specs.Files.{IsResource, IsFile, IsEmitted}

-- ---- options that are empty

both_none : {A B C D : Type 0} (f : A → B → C) (g : A → B → D) (o : Option A) (u : Option B) → with_both o u f ≡ None
    → with_both o u g ≡ None
both_none f g None u h = refl
both_none f g (Some x) None h = refl
both_none f g (Some x) (Some y) h = absurd cc

second_none : {A B C : Type 0} (f : A → B → C) (o : Option A) (u : Option B) (x : A) → o ≡ Some x
    → with_both o u f ≡ None → u ≡ None
second_none f None u x e h = absurd cc
second_none f (Some y) None x e h = refl
second_none f (Some y) (Some z) x e h = absurd cc

neither : {A B : Type 0} (r : A → B → Type 0) (o : Option B) → AreBoth r None o → o ≡ None
neither r None h = refl
neither r (Some b) h = absurd h

-- ---- readings of what is not there

not_raw : (w : World) (f : Reads Json → Reads Json) (o : Option (Reads Json)) → o ≡ None
    → value_in w (there_if (option_map f o)) ≡ Some None
unfolding value_in
not_raw w f None h = refl
not_raw w f (Some r) h = absurd cc

module _ (w : World) (c : Cell) (r : Reads (Option Json)) where
  closed : is_admitted w c ≡ false → value_in w (guarded c r) ≡ Some None
  closed e = guarded_value w c r ∙ ap (λ b. if b then value_in w r else Some None) e

  empty_by : (b : Bool) (v : Option (Option Json)) → v ≡ Some None → (if b then v else Some None) ≡ Some None
  empty_by true v h = h
  empty_by false v h = refl

  empty : value_in w r ≡ Some None → value_in w (guarded c r) ≡ Some None
  empty h = guarded_value w c r ∙ empty_by (is_admitted w c) (value_in w r) h

-- ---- scopes and resources

module _ (z : Form) (files : List SourceFile) where
  -- what a file and its template are to each other
  abbrev pub Match : SourceFile → TemplateTree → Type 0
  Match f v = IsFile files f z v

  pub scope_matches : (u : TemplateTree) → IsEmitted z files u → (q p : Position)
      → from_position (numbering z files) q ≡ Some p → AreBoth Match (file_at files p) (template_at u q)
  scope_matches u h q p e =
      subst (λ o. AreBoth Match (option_and_then (file_at files) o) (template_at u q)) e (h q)

  pub resource_matches : (f : SourceFile) (v : TemplateTree) → Match f v → (m : ℕ) (o : Option ℕ)
      → symbol_of z f m ≡ o → AreBoth (IsResource files f) (option_and_then (λ n. put_of n f) o) (resource_at v m)
  resource_matches f v h m o e =
      subst (λ o. AreBoth (IsResource files f) (option_and_then (λ n. put_of n f) o) (resource_at v m)) e
      (h.resources m)

  -- a number without a symbol is that of no resource
  no_resource : (m : ℕ) (o : Option SourceFile) (t : Option TemplateTree) → AreBoth Match o t
      → option_and_then (λ f. symbol_of z f m) o ≡ None → option_and_then (λ v. resource_at v m) t ≡ None
  no_resource m o None h e = refl
  no_resource m None (Some v) h e = absurd h
  no_resource m (Some f) (Some v) h e =
      neither (IsResource files f) (resource_at v m) (resource_matches f v h m None e)

module _ (z : Form) (files : List SourceFile) (d : Deployment) (h : IsEmitted z files d.template) (w : World) where
  abbrev Above : Cell → Type 0
  Above c = (e : Cell) → parent c ≡ Some e → from_cell (numbering z files) e ≡ None → w e ≡ None

  -- what opens a scope that the program does not have is not there
  not_opened : (c : Cell) (q : Position) → admits c None ≡ false → from_position (numbering z files) q ≡ None
      → ((e : Cell) → opener q ≡ Some e → from_cell (numbering z files) e ≡ None → w e ≡ None)
      → admitted w c (opener q) ≡ false
  not_opened c [] never k a = absurd cc
  not_opened c (s ∷ q) never k a =
      let r = numbering z files in
      ap (admits c)
      (a (included q s) refl
      (both_none (λ p n. step n s.copy ∷ p) (λ p n. included p (step n s.copy)) (from_position r q)
      (resource_by r (from_position r q) s.resource) k))
      ∙ never

  not_counted : (q p : Position) (m : ℕ) → from_position (numbering z files) q ≡ Some p
      → number_at (numbering z files) q m ≡ None → resource_of d.template q m ≡ None
  not_counted q p m e k =
      no_resource z files m (file_at files p) (template_at d.template q) (scope_matches z files d.template h q p e)
      (subst (λ o. resource_by (numbering z files) o m ≡ None) e k)

  count_out : (q : Position) (m : ℕ) → from_cell (numbering z files) (count q m) ≡ None → Above (count q m)
      → Either (from_position (numbering z files) q) → value_in w (meaning d (count q m)) ≡ Some None
  unfolding meaning plain raw
  count_out q m k a (nowhere e) =
      closed w (count q m) (plain d (count q m)) (not_opened (count q m) q refl e a)
  count_out q m k a (there p e) =
      empty w (count q m) (plain d (count q m))
      (not_raw w (ruled d (rule d (count q m))) (option_map (count_value d q) (resource_of d.template q m))
      (ap (option_map (count_value d q))
      (not_counted q p m e
      (second_none (λ p n. count p n) (from_position (numbering z files) q) (number_at (numbering z files) q m) p e
      k))))

  -- an instance of a resource that the program does not have
  instance_out : (c : Cell) (q : Position) (s : Step) → parent c ≡ Some (count q s.resource)
      → admits c None ≡ false → from_cell (numbering z files) (count q s.resource) ≡ None → Above c
      → value_in w (meaning d c) ≡ Some None
  unfolding meaning
  instance_out c q s up never k a =
      closed w c (plain d c) (ap (admitted w c) up ∙ ap (admits c) (a (count q s.resource) up k) ∙ never)

  scope_out : (c : Cell) (q : Position) → parent c ≡ opener q → admits c None ≡ false
      → from_position (numbering z files) q ≡ None → Above c → value_in w (meaning d c) ≡ Some None
  unfolding meaning
  scope_out c q up never k a =
      closed w c (plain d c)
      (ap (admitted w c) up ∙ not_opened c q never k (λ e g l. a e (up ∙ g) l))

  output_out : (q : Position) (x : List ℕ) → from_cell (numbering z files) (output q x) ≡ None → Above (output q x)
      → value_in w (meaning d (output q x)) ≡ Some None
  unfolding meaning
  output_out q x k a =
      closed w (output q x) (plain d (output q x))
      (ap (admits (output q x))
      (a (offered q x) refl
      (ap (option_map (λ p. offered p x))
      (none_mapped (λ p. output p x) (from_position (numbering z files) q) k))))

  pub absent : (c : Cell) → from_cell (numbering z files) c ≡ None → Above c → value_in w (meaning d c) ≡ Some None
  absent (parameter q x) k a =
      scope_out (parameter q x) q refl refl (none_mapped (λ p. parameter p x) (from_position (numbering z files) q) k) a
  absent (variable q x) k a =
      scope_out (variable q x) q refl refl (none_mapped (λ p. variable p x) (from_position (numbering z files) q) k) a
  absent (offered q x) k a =
      scope_out (offered q x) q refl refl (none_mapped (λ p. offered p x) (from_position (numbering z files) q) k) a
  absent (output q x) k a = output_out q x k a
  absent (count q m) k a = count_out q m k a (either (from_position (numbering z files) q))
  absent (included q s) k a =
      instance_out (included q s) q s refl (none_below s.copy)
      (both_none (λ p n. included p (step n s.copy)) (λ p n. count p n) (from_position (numbering z files) q)
      (number_at (numbering z files) q s.resource) k) a
  absent (name q s) k a =
      instance_out (name q s) q s refl (none_below s.copy)
      (both_none (λ p n. name p (step n s.copy)) (λ p n. count p n) (from_position (numbering z files) q)
      (number_at (numbering z files) q s.resource) k) a
  absent (deployments q) k a =
      scope_out (deployments q) q refl refl (none_mapped (λ p. deployments p) (from_position (numbering z files) q) k) a
  absent (state key) k a = absurd cc
