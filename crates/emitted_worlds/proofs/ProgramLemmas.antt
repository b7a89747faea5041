-- The facts of worlds that are desired of a program.
use Rattle.std.proofs.Common.{◌≡◌, ℕ, nat_le, Bool, true, false, List, ◌∷◌, Option, Some, None, refl, ap}
use Rattle.std.proofs.Common.{◌∙◌}
use Rattle.std.specs.Prelude.{option_map, option_and_then}
use Rattle.arm_value.specs.Json.{Json}
use Rattle.arm_ids.specs.declared.id.ResourceId.{ResourceId}
use Rattle.template_parts.specs.declared.mode.Form.{Form}
use Rattle.deploy_cells.specs.Cells.{Step, step, Position, Cell, parameter, variable, output, count, included, name}
use Rattle.deploy_cells.specs.Cells.{deployments, World, copies, is_admitted}
use Rattle.deploy_cells.specs.Guarded.{Reads}
use Rattle.deploy_cells.specs.Listing.{listing_value}
use Rattle.deploy_cells.specs.Puts.{IsDesired, IsPutAt}
use Rattle.plan_cells.specs.Desired as template
use Rattle.bicep_meaning.specs.Files.{SourceFile}
use Rattle.bicep_meaning.specs.Instances as program
use Rattle.bicep_meaning.specs.Instances.{SourceProgram, Put, put_of, file_at, frames_of, of_file, in_file}
use Rattle.bicep_meaning.specs.Around.{Here}
use Rattle.bicep_meaning.specs.Declared.{whole}
use Rattle.bicep_emission.specs.Answered.{deployment_types}
use Rattle.cell_renaming.specs.Renaming.{to_position}
use Rattle.cell_renaming.proofs.OptionLemmas.{of_both, of_then}
use Rattle.source_worlds.specs.Numbers.{number_of, numbering}
use Rattle.emitted_worlds.specs.Facts.{HasOwnTypes, HoldsResources, IsListing, HasName, HasFacts}
use Rattle.emitted_worlds.proofs.ListLemmas.{lists, few_copies, program_name, is_opened, numbered_put}
use Rattle.emitted_worlds.proofs.SourceLemmas.{not_admitted, by_admitted, valued}

none_found : {A B : Type 0} (find : SourceFile → Option A) (g : SourceFile → A → B) (o : Option SourceFile)
    → option_and_then find o ≡ None → option_and_then (λ f. option_map (g f) (find f)) o ≡ None
none_found find g None h = refl
none_found find g (Some f) h = ap (option_map (g f)) h

module _ (z : Form) (d : SourceProgram) (opening : ResourceId → Option Json) (own : HasOwnTypes d)
    (holds : HoldsResources opening) (w : World) (h : IsDesired (program.desired d opening) w) where
  none_declared : (c : Cell) → program.raw d c ≡ None → template.is_state c ≡ false → w c ≡ None
  none_declared c e k = by_admitted d w h.is_world c e k (is_admitted w c) refl

  count_by : (p : Position) (n : ℕ) (o : Option (Reads Json)) → program.raw d (count p n) ≡ o → (b : Bool)
      → is_admitted w (count p n) ≡ b → nat_le (copies (w (count p n))) 800 ≡ true
  count_by p n o e false a = ap (λ o. nat_le (copies o) 800) (not_admitted d w h.is_world (count p n) a)
  count_by p n None e true a = ap (λ o. nat_le (copies o) 800) (none_declared (count p n) e refl)
  count_by p n (Some r) e true a =
      let v = valued d w h.is_world (count p n) refl r e a in
      ap (λ o. nat_le (copies o) 800) v.has ∙ few_copies v.value v.meets

  listed_raw : (p : Position) (f : SourceFile) → file_at d.files p ≡ Some f
      → program.raw d (deployments p) ≡ Some (listing_value p f.modules)
  unfolding program.raw
  listed_raw p f e = ap (option_map (λ f. listing_value p f.modules)) e

  listing_is : (p q : Position) (f : SourceFile) → to_position (numbering z d.files) p ≡ Some q
      → file_at d.files p ≡ Some f → is_admitted w (deployments p) ≡ true → IsListing f (w (deployments p))
  listing_is p q f g e a =
      let v = valued d w h.is_world (deployments p) refl (listing_value p f.modules) (listed_raw p f e) a in
      let l = lists w p f.modules v.value v.is_read in
      record { listed = l.listed; is = v.has ∙ ap (λ j. Some j) l.is; each = l.each }

  raw_parameter : (p : Position) (x : List ℕ) → option_and_then (program.parameter_named x) (file_at d.files p) ≡ None
      → program.raw d (parameter p x) ≡ None
  unfolding program.raw
  raw_parameter p x e = ap (option_and_then _) e

  raw_variable : (p : Position) (x : List ℕ) → option_and_then (program.variable_named x) (file_at d.files p) ≡ None
      → program.raw d (variable p x) ≡ None
  unfolding program.raw
  raw_variable p x e = none_found (program.variable_named x) _ (file_at d.files p) e

  raw_output : (p : Position) (x : List ℕ) → option_and_then (λ f. program.output_folded f x) (file_at d.files p) ≡ None
      → program.raw d (output p x) ≡ None
  unfolding program.raw
  raw_output p x e = none_found (λ f. program.output_folded f x) _ (file_at d.files p) e

  -- the name of an instance of a symbol that is put
  name_by : (p : Position) (s : Step) (r : Reads Json) → program.raw d (name p s) ≡ Some r
      → is_admitted w (name p s) ≡ true → HasName (w (name p s))
  name_by p s r e a =
      let v = valued d w h.is_world (name p s) refl r e a in
      let n = program_name d.place v.value (program.kinds d p s.resource) v.meets in
      record { title = n.0; is = v.has ∙ ap (λ j. Some j) n.1 }

  found_raw : {A : Type 0} (p : Position) (find : SourceFile → Option A) (g : A → Here → Reads Json) (f : SourceFile)
      (a : A) → file_at d.files p ≡ Some f → find f ≡ Some a → of_file d p find g ≡ Some (in_file d p f (g a))
  found_raw p find g f a e k =
      ap (option_and_then (λ f. option_map (λ x. in_file d p f (g x)) (find f))) e
      ∙ ap (option_map (λ x. in_file d p f (g x))) k

  abbrev full_name : Step → Put → Here → Reads Json
  full_name s x here = (whole here).full_name x.number (frames_of here x s.copy)

  name_raw : (p : Position) (s : Step) (f : SourceFile) (m : ℕ) → file_at d.files p ≡ Some f
      → number_of z f s.resource ≡ Some m → (r : Reads Json) × (program.raw d (name p s) ≡ Some r)
  unfolding program.raw
  name_raw p s f m e k =
      let y = numbered_put z f s.resource m k in (
        in_file d p f (full_name s y.0),
        found_raw p (put_of s.resource) (full_name s) f y.0 e y.1,
      )

  name_is : (p q : Position) (s : Step) → to_position (numbering z d.files) (s ∷ p) ≡ Some q
      → is_admitted w (deployments (s ∷ p)) ≡ true → (b : Bool) → is_admitted w (name p s) ≡ b
      → HasName (w (name p s))
  name_is p q s g a false c =
      absurd (is_opened (w (included p s)) (not_admitted d w h.is_world (included p s) c) a)
  name_is p q s g a true c =
      let r = numbering z d.files in
      let b = of_both (to_position r p) (r.number p s.resource) (λ q m. step m s.copy ∷ q) q g in
      let f = of_then (file_at d.files p) (λ f. number_of z f s.resource) b.right b.second in
      let x = name_raw p s f.left b.right f.first f.made in
      name_by p s x.0 x.1 c

  not_put : (k : ResourceId) → k.types ≡ deployment_types → IsPutAt d.place (program.kinds d) w k → ⊥
  not_put k e g =
      own g.at g.instance.resource g.kind g.is_put.is_included.is_declared g.is_put.is_resource
      (ap (λ (i : ResourceId). i.types) g.has_key ∙ e)

  pub by_program : HasFacts z d w
  by_program = record {
    closed = λ c a. not_admitted d w h.is_world c a;
    parameters = λ p x e. none_declared (parameter p x) (raw_parameter p x e) refl;
    variables = λ p x e. none_declared (variable p x) (raw_variable p x e) refl;
    outputs = λ p x e. none_declared (output p x) (raw_output p x e) refl;
    listing = listing_is;
    counts = λ p n. count_by p n (program.raw d (count p n)) refl (is_admitted w (count p n)) refl;
    names = λ p q s g a. name_is p q s g a (is_admitted w (name p s)) refl;
    states = λ k e. h.others_are_held k (not_put k e) ∙ holds k e;
  }
