-- The values of declarations in which nothing is misplaced and no name is given twice.
use Rattle.std.proofs.Common.{◌≡◌, List, [], ◌∷◌, ◌++◌, map, Option, Some, None, sym, subst}
use Rattle.std.specs.Prelude.{option_to_list}
use Rattle.std.specs.List.{AllByRecursion}
use Rattle.bicep_tree.specs.Tree.{DeclarationTree}
use Rattle.bicep_tree.specs.Tree as tree
use Rattle.bicep_found.specs.Found.{Found, found, mapped, both, all_found}
use Rattle.bicep_resolved.specs.Source.{ValueTree}
use Rattle.bicep_resolved.specs.Source as s
use Rattle.bicep_names.specs.Scope.{Scope}
use Rattle.bicep_names.specs.Resolve.{resolved, resolved_value}
use Rattle.bicep_members.specs.Parts.{repeated_in_value}
use Rattle.bicep_misplaced.specs.declared.spot.Spot.TheVariants as spot
use Rattle.bicep_misplaced.specs.Files.{bad_in_whole, misplaced}
use Rattle.bicep_members.specs.Files.{repeated_member}
use Rattle.bicep_declared.specs.Declarations.{DeclaredTree, OutputTree, DeclaredFileTree}
use Rattle.bicep_declared.specs.Declarations as d
use Rattle.bicep_declared.specs.Declare.{body_of, declared, declared_all, output_declared}
use Rattle.bicep_declared.specs.Declare.{outputs_declared, declared_file, some_parameter, some_variable}
use Rattle.bicep_declared.specs.Declare.{some_resource, some_module, some_output, file}
use Rattle.bicep_declared.specs.Sites.{declarations_of}
use Rattle.bicep_emission.specs.Emittable.{IsEmittable}
use Rattle.sound_values.specs.Sound.{allowed, IsSound, IsSoundValue}
use Rattle.bicep_numbers.proofs.FoundLemmas.{all-append}
use Rattle.sound_values.specs.FewHoles.{ValueHasFew}
use Rattle.sound_values.proofs.FoundLemmas.{of_mapped, of_both, same_found}
use Rattle.sound_values.proofs.SoundLemmas.{good, whole_sound}
use Rattle.sound_declarations.specs.Few.{DeclaredHasFew, FileHasFew}
use Rattle.sound_declarations.specs.Values.{IsDeclaredSound, AreValuesSound}
use Rattle.sound_declarations.proofs.BodyLemmas.{BodyGood, body_good}
use Rattle.sound_declarations.proofs.CleanLemmas.{IsClean, AreClean, file_is_clean}

-- a value that is no for-expression can be emitted
abbrev pub IsPlainEmittable : ValueTree → Type 0
IsPlainEmittable (s.plain e) = IsEmittable e
IsPlainEmittable (s.each l e) = Unit {0}

abbrev pub IsGood : DeclaredTree → Type 0
IsGood (d.parameter at t) = Unit {0}
IsGood (d.parameter_with at t e) = IsEmittable e × IsSound allowed e
IsGood (d.variable at v) = IsSoundValue allowed v × IsPlainEmittable v
IsGood (d.a_resource at q existing b) = BodyGood b
IsGood (d.a_module at b) = BodyGood b

abbrev OutputHasFew : OutputTree → Type 0
OutputHasFew o = ValueHasFew o.value

abbrev OutputIsSound : OutputTree → Type 0
OutputIsSound o = IsSoundValue allowed o.value

-- ---- lists

all_front : {A : Type 0} (P : A → Type 0) (xs ys : List A) → AllByRecursion P (xs ++ ys) → AllByRecursion P xs
all_front P [] ys h = tt
all_front P (x ∷ xs) ys h = (h.0, all_front P xs ys h.1)

all_back : {A : Type 0} (P : A → Type 0) (xs ys : List A) → AllByRecursion P (xs ++ ys) → AllByRecursion P ys
all_back P [] ys h = h
all_back P (x ∷ xs) ys h = all_back P xs ys h.1

module _ {B : Type 0} (P Q : B → Type 0) (g : DeclarationTree → Found (Option B)) where
  abbrev Part : DeclarationTree → Found (List B)
  Part t = mapped option_to_list (g t)

  -- what is found of each declaration has a property, so all that is found has it
  all_of : ((t : DeclarationTree) → IsClean t → (o : Option B) → g t ≡ found o → AllByRecursion Q (option_to_list o)
      → AllByRecursion P (option_to_list o)) → (ts : List DeclarationTree) (xs : List B) → AreClean ts
      → all_found (map Part ts) ≡ found xs → AllByRecursion Q xs → AllByRecursion P xs
  unfolding all_found
  all_of each [] xs c h few = subst (AllByRecursion P) (same_found [] xs h) tt
  all_of each (t ∷ ts) xs c h few =
      let a = of_mapped (λ (p : List B × List B). p.0 ++ p.1) (both (Part t) (all_found (map Part ts))) xs h in
      let b = of_both (Part t) (all_found (map Part ts)) a.part a.is in
      let o = of_mapped (λ (x : Option B). option_to_list x) (g t) a.part.0 b.first in
      let f = subst (AllByRecursion Q) (sym a.made) few in
      let own = subst (AllByRecursion Q) (sym o.made) (all_front Q a.part.0 a.part.1 f) in
      subst (AllByRecursion P) a.made
      (all-append P a.part.0 a.part.1 (subst (AllByRecursion P) o.made (each t c.0 o.part o.is own))
      (all_of each ts a.part.1 c.1 b.second (all_back Q a.part.0 a.part.1 f)))

module _ (sc : Scope) where
  -- ---- values

  value_emittable : (v : tree.ValueTree) (x : ValueTree) → bad_in_whole v ≡ None → repeated_in_value v ≡ None
      → resolved_value sc v [] ≡ found x → ValueHasFew x → IsPlainEmittable x
  value_emittable (tree.plain e) x b r h few =
      let g = of_mapped (λ y. s.plain y) (resolved sc e []) x h in
      subst IsPlainEmittable g.made
      ((good sc spot.Outside tt e [] g.part b r g.is (subst ValueHasFew (sym g.made) few)).emittable)
  value_emittable (tree.each (tree.loop at ns xs) e) x b r h few =
      let g = of_mapped (λ p. s.each (s.loop at p.0) p.1) (both (resolved sc xs []) (resolved sc e (ns ∷ []))) x h in
      subst IsPlainEmittable g.made tt

  -- ---- declarations

  abbrev SomeHasFew : Option DeclaredTree → Type 0
  SomeHasFew o = AllByRecursion DeclaredHasFew (option_to_list o)

  abbrev SomeIsGood : Option DeclaredTree → Type 0
  SomeIsGood o = AllByRecursion IsGood (option_to_list o)

  declared_good : (t : DeclarationTree) → IsClean t → (o : Option DeclaredTree) → declared sc t ≡ found o
      → SomeHasFew o → SomeIsGood o
  declared_good (tree.metadata at n e) c o h few = subst SomeIsGood (same_found None o h) tt
  declared_good (tree.target_scope at e) c o h few = subst SomeIsGood (same_found None o h) tt
  declared_good (tree.param at n t) c o h few =
      subst SomeIsGood (same_found (Some (d.parameter n.at t)) o h) (tt, tt)
  declared_good (tree.param_with at n t e) c o h few =
      let g = of_mapped (some_parameter n.at t) (resolved sc e []) o h in
      let f = subst SomeHasFew (sym g.made) few in
      let a = good sc spot.Outside tt e [] g.part c.0 c.1 g.is f.0 in
      subst SomeIsGood g.made ((a.emittable, a.sound allowed), tt)
  declared_good (tree.var at n v) c o h few =
      let g = of_mapped (some_variable n.at) (resolved_value sc v []) o h in
      let f = subst SomeHasFew (sym g.made) few in
      subst SomeIsGood g.made (
        (
          whole_sound sc v [] g.part c.0 c.1 g.is f.0,
          value_emittable v g.part c.0 c.1 g.is f.0,
        ),
        tt,
      )
  declared_good (tree.output at n t v) c o h few = subst SomeIsGood (same_found None o h) tt
  declared_good (tree.a_resource (tree.resource at n q x b)) c o h few =
      let g = of_mapped (some_resource n.at q x) (body_of sc b) o h in
      let f = subst SomeHasFew (sym g.made) few in
      subst SomeIsGood g.made (body_good sc c.owner b g.part c.placed c.once g.is f.0, tt)
  declared_good (tree.a_module at n q b) c o h few =
      let g = of_mapped (some_module n.at) (body_of sc b) o h in
      let f = subst SomeHasFew (sym g.made) few in
      subst SomeIsGood g.made (body_good sc c.owner b g.part c.placed c.once g.is f.0, tt)

  -- ---- outputs

  abbrev SomeOutputHasFew : Option OutputTree → Type 0
  SomeOutputHasFew o = AllByRecursion OutputHasFew (option_to_list o)

  abbrev SomeOutputIsSound : Option OutputTree → Type 0
  SomeOutputIsSound o = AllByRecursion OutputIsSound (option_to_list o)

  output_sound : (t : DeclarationTree) → IsClean t → (o : Option OutputTree) → output_declared sc t ≡ found o
      → SomeOutputHasFew o → SomeOutputIsSound o
  output_sound (tree.metadata at n e) c o h few = subst SomeOutputIsSound (same_found None o h) tt
  output_sound (tree.target_scope at e) c o h few = subst SomeOutputIsSound (same_found None o h) tt
  output_sound (tree.param at n t) c o h few = subst SomeOutputIsSound (same_found None o h) tt
  output_sound (tree.param_with at n t e) c o h few = subst SomeOutputIsSound (same_found None o h) tt
  output_sound (tree.var at n v) c o h few = subst SomeOutputIsSound (same_found None o h) tt
  output_sound (tree.output at n t v) c o h few =
      let g = of_mapped (some_output n.at t) (resolved_value sc v []) o h in
      let f = subst SomeOutputHasFew (sym g.made) few in
      subst SomeOutputIsSound g.made (whole_sound sc v [] g.part c.0 c.1 g.is f.0, tt)
  output_sound (tree.a_resource q) c o h few = subst SomeOutputIsSound (same_found None o h) tt
  output_sound (tree.a_module at n q b) c o h few = subst SomeOutputIsSound (same_found None o h) tt

  -- ---- files

  pub record FileIsGood (f : DeclaredFileTree) : Type 0 where
    pub declarations : AllByRecursion IsGood f.declarations
    pub outputs : AllByRecursion OutputIsSound f.outputs

  pub file_good : (f : tree.FileTree) (t : DeclaredFileTree) → misplaced f ≡ None → repeated_member f ≡ None
      → declared_file sc f ≡ found t → FileHasFew t → FileIsGood t
  unfolding declared_file
  file_good f t b r h few =
      let ds = declarations_of f in
      let c = file_is_clean f b r in
      let g = of_mapped file (both (declared_all sc ds) (outputs_declared sc ds)) t h in
      let p = of_both (declared_all sc ds) (outputs_declared sc ds) g.part g.is in
      let own = subst FileHasFew (sym g.made) few in
      subst FileIsGood g.made (record {
        declarations =
            all_of IsGood DeclaredHasFew (declared sc) declared_good ds g.part.0 c p.first own.declarations;
        outputs =
            all_of OutputIsSound OutputHasFew (output_declared sc) output_sound ds g.part.1 c p.second own.outputs;
      })

-- what is published of the values of a file
declared_sound : (x : DeclaredTree) → IsGood x → IsDeclaredSound x
declared_sound (d.parameter at t) h = tt
declared_sound (d.parameter_with at t e) h = h
declared_sound (d.variable at v) h = h.0
declared_sound (d.a_resource at q existing b) h = h.sound
declared_sound (d.a_module at b) h = h.sound

all_sound : (xs : List DeclaredTree) → AllByRecursion IsGood xs → AllByRecursion IsDeclaredSound xs
all_sound [] h = tt
all_sound (x ∷ xs) h = (declared_sound x h.0, all_sound xs h.1)

pub values_sound : (sc : Scope) (t : DeclaredFileTree) → FileIsGood sc t → AreValuesSound t
values_sound sc t h = record { declarations = all_sound t.declarations h.declarations; outputs = h.outputs }
