-- A cell of a program that its template does not have is not there.
use Rattle.std.proofs.Common.{◌≡◌, ℕ, Bool, true, false, List, [], ◌∷◌, Option, Some, None}
use Rattle.std.proofs.Common.{refl, ap, ◌∙◌, subst, arith}
use Rattle.std.specs.Prelude.{is_some, option_map, option_and_then, if◌then◌else◌}
use Rattle.foundation.proofs.Comparisons.{none_below}
use Rattle.foundation.proofs.Options.{none_mapped}
use Rattle.arm_value.specs.Json.{Json}
use Rattle.reading.specs.World.{value_in}
use Rattle.deploy_cells.specs.Cells.{Step, step, Position, Cell, parameter, variable, offered, output, count, included}
use Rattle.deploy_cells.specs.Cells.{name, deployments, state, World, opener, parent, admits, admitted, is_admitted}
use Rattle.deploy_cells.specs.Guarded.{Reads, guarded, there_if}
use Rattle.deploy_cells.proofs.CellLemmas.{guarded_value}
use Rattle.template_parts.specs.declared.mode.Form.{Form}
use Rattle.bicep_meaning.specs.Files.{SourceFile}
use Rattle.bicep_meaning.specs.Instances.{SourceProgram, Put, put_of, file_at, ruled, rule, raw, plain, meaning, count_value}
use Rattle.cell_renaming.specs.Renaming.{with_both, to_position, to_cell}
use Rattle.cell_renaming.proofs.OptionLemmas.{Either, there, nowhere, either}
use Rattle.source_worlds.specs.Numbers.{number_of, numbering}
use Rattle.source_worlds.proofs.NumberLemmas.{has_number}

-- ---- options that are empty

both_none : {A B C D : Type 0} (f : A → B → C) (g : A → B → D) (o : Option A) (u : Option B) → with_both o u f ≡ None
    → with_both o u g ≡ None
both_none f g None u h = refl
both_none f g (Some x) None h = refl
both_none f g (Some x) (Some y) h = absurd cc

second_none : {A B C : Type 0} (f : A → B → C) (o : Option A) (u : Option B) (x : A) → o ≡ Some x
    → with_both o u f ≡ None → u ≡ None
second_none f None u x e h = absurd cc
second_none f (Some y) None x e h = refl
second_none f (Some y) (Some z) x e h = absurd cc

found_none : {A B : Type 0} (g : SourceFile → A → B) (find : SourceFile → Option A) (o : Option SourceFile)
    → ((f : SourceFile) → o ≡ Some f → find f ≡ None) → option_and_then (λ f. option_map (g f) (find f)) o ≡ None
found_none g find None h = refl
found_none g find (Some f) h = ap (option_map (g f)) (h f refl)

-- ---- readings of what is not there

not_raw : (w : World) (f : Json → Bool) (o : Option (Reads Json)) → o ≡ None
    → value_in w (there_if (option_map (ruled f) o)) ≡ Some None
unfolding value_in
not_raw w f None h = refl
not_raw w f (Some r) h = absurd cc

module _ (w : World) (c : Cell) (r : Reads (Option Json)) where
  closed : is_admitted w c ≡ false → value_in w (guarded c r) ≡ Some None
  closed e = guarded_value w c r ∙ ap (λ b. if b then value_in w r else Some None) e

  empty_by : (b : Bool) (v : Option (Option Json)) → v ≡ Some None → (if b then v else Some None) ≡ Some None
  empty_by true v h = h
  empty_by false v h = refl

  empty : value_in w r ≡ Some None → value_in w (guarded c r) ≡ Some None
  empty h = guarded_value w c r ∙ empty_by (is_admitted w c) (value_in w r) h

-- ---- symbols without a number

unnumbered : (z : Form) (f : SourceFile) (n : ℕ) (o : Option Put) → put_of n f ≡ o → number_of z f n ≡ None → o ≡ None
unnumbered z f n None e h = refl
unnumbered z f n (Some x) e h = let g = has_number f n (ap is_some e) z in absurd cc

module _ (z : Form) (d : SourceProgram) (w : World) where
  not_numbered : (o : Option SourceFile) (n : ℕ) → option_and_then (λ f. number_of z f n) o ≡ None
      → (f : SourceFile) → o ≡ Some f → put_of n f ≡ None
  not_numbered None n h f e = absurd cc
  not_numbered (Some g) n h f e =
      unnumbered z f n (put_of n f) refl (subst (λ o. option_and_then (λ f. number_of z f n) o ≡ None) e h)

  abbrev Above : Cell → Type 0
  Above c = (e : Cell) → parent c ≡ Some e → to_cell (numbering z d.files) e ≡ None → w e ≡ None

  -- what opens a scope that has no new position is not there
  not_opened : (c : Cell) (p : Position) → admits c None ≡ false → to_position (numbering z d.files) p ≡ None
      → ((e : Cell) → opener p ≡ Some e → to_cell (numbering z d.files) e ≡ None → w e ≡ None)
      → admitted w c (opener p) ≡ false
  not_opened c [] never h a = absurd cc
  not_opened c (s ∷ p) never h a =
      let r = numbering z d.files in
      ap (admits c)
      (a (included p s) refl
      (both_none (λ q m. step m s.copy ∷ q) (λ q m. included q (step m s.copy)) (to_position r p)
      (r.number p s.resource) h))
      ∙ never

  -- a resource without a number is not declared
  not_counted : (p : Position) (n : ℕ) → (numbering z d.files).number p n ≡ None → count_value d p n ≡ None
  not_counted p n h = found_none _ (put_of n) (file_at d.files p) (not_numbered (file_at d.files p) n h)

  count_out : (p : Position) (n : ℕ) → to_cell (numbering z d.files) (count p n) ≡ None → Above (count p n)
      → Either (to_position (numbering z d.files) p) → value_in w (meaning d (count p n)) ≡ Some None
  unfolding meaning plain raw
  count_out p n h a (nowhere e) =
      closed w (count p n) (plain d (count p n)) (not_opened (count p n) p refl e a)
  count_out p n h a (there q e) =
      empty w (count p n) (plain d (count p n))
      (not_raw w (rule d (count p n)) (count_value d p n)
      (not_counted p n
      (second_none (λ q m. count q m) (to_position (numbering z d.files) p) ((numbering z d.files).number p n) q e h)))

  -- an instance of a resource that is not declared
  instance_out : (c : Cell) (p : Position) (s : Step) → parent c ≡ Some (count p s.resource)
      → admits c None ≡ false → with_both (to_position (numbering z d.files) p)
      ((numbering z d.files).number p s.resource) (λ q m. count q m) ≡ None → Above c
      → value_in w (meaning d c) ≡ Some None
  unfolding meaning
  instance_out c p s up never h a =
      closed w c (plain d c)
      (ap (admitted w c) up ∙ ap (admits c) (a (count p s.resource) up h) ∙ never)

  scope_out : (c : Cell) (p : Position) → parent c ≡ opener p → admits c None ≡ false
      → to_position (numbering z d.files) p ≡ None → Above c → value_in w (meaning d c) ≡ Some None
  unfolding meaning
  scope_out c p up never h a =
      closed w c (plain d c)
      (ap (admitted w c) up ∙ not_opened c p never h (λ e g k. a e (up ∙ g) k))

  output_out : (p : Position) (x : List ℕ) → to_cell (numbering z d.files) (output p x) ≡ None → Above (output p x)
      → value_in w (meaning d (output p x)) ≡ Some None
  unfolding meaning
  output_out p x h a =
      closed w (output p x) (plain d (output p x))
      (ap (admits (output p x))
      (a (offered p x) refl
      (ap (option_map (λ q. offered q x))
      (none_mapped (λ q. output q x) (to_position (numbering z d.files) p) h))))

  pub undeclared : (c : Cell) → to_cell (numbering z d.files) c ≡ None → Above c
      → value_in w (meaning d c) ≡ Some None
  undeclared (parameter p x) h a =
      scope_out (parameter p x) p refl refl
      (none_mapped (λ q. parameter q x) (to_position (numbering z d.files) p) h) a
  undeclared (variable p x) h a =
      scope_out (variable p x) p refl refl (none_mapped (λ q. variable q x) (to_position (numbering z d.files) p) h) a
  undeclared (offered p x) h a =
      scope_out (offered p x) p refl refl (none_mapped (λ q. offered q x) (to_position (numbering z d.files) p) h) a
  undeclared (output p x) h a = output_out p x h a
  undeclared (count p n) h a = count_out p n h a (either (to_position (numbering z d.files) p))
  undeclared (included p s) h a =
      instance_out (included p s) p s refl (none_below s.copy)
      (both_none (λ q m. included q (step m s.copy)) (λ q m. count q m) (to_position (numbering z d.files) p)
      ((numbering z d.files).number p s.resource) h) a
  undeclared (name p s) h a =
      instance_out (name p s) p s refl (none_below s.copy)
      (both_none (λ q m. name q (step m s.copy)) (λ q m. count q m) (to_position (numbering z d.files) p)
      ((numbering z d.files).number p s.resource) h) a
  undeclared (deployments p) h a =
      scope_out (deployments p) p refl refl
      (none_mapped (λ q. deployments q) (to_position (numbering z d.files) p) h) a
  undeclared (state k) h a = absurd cc
