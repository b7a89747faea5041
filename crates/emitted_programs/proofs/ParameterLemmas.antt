-- A parameter of a scope of a template is what that of the file is: what is given for it, or else its default.
use Rattle.std.proofs.Common.{◌≡◌, ◌≤◌, ℕ, Bool, true, false, List, [], ◌∷◌, Option, Some, None, codes}
use Rattle.std.proofs.Common.{refl, sym, ap, ◌∙◌, subst}
use Rattle.std.specs.Prelude.{nat_lt, option_map, option_and_then, if◌then◌else◌}
use Rattle.foundation.specs.Options.{or_else}
use Rattle.foundation.proofs.Options.{same_some}
use Rattle.arm_value.specs.Json.{Json, IsOrderly, nesting}
use Rattle.arm_ids.specs.declared.id.Place.{Place}
use Rattle.arm_env.specs.Look.{Surroundings}
use Rattle.literal_trees.proofs.KnownLemmas.{known}
use Rattle.template_parameters.specs.Literal.{literal}
use Rattle.arm_value.specs.View.{json}
use Rattle.arm_value.specs.declared.value.Value.{Value}
use Rattle.arm_eval.specs.Trees.{tree_value}
use Rattle.reading.specs.Reading.{pure, continued, through}
use Rattle.template_parameters.specs.Binding.{BoundMeaning, by_literal}
use Rattle.template_parts.specs.declared.content.Argument.{Argument}
use Rattle.template_parts.specs.declared.mode.Form.{Form}
use Rattle.template_parts.specs.declared.parameter.Parameter.{Parameter}
use Rattle.template_tree.specs.Tree.{TemplateTree, BodyTree, body_members, deployment}
use Rattle.deploy_cells.specs.Cells.{Step, step, Position, parameter, count, deployments, World, is_admitted}
use Rattle.deploy_cells.specs.Cells.{copies}
use Rattle.deploy_cells.specs.Followed.{followed}
use Rattle.deploy_cells.specs.Guarded.{Reads}
use Rattle.plan_cells.specs.Meaning as template
use Rattle.plan_cells.specs.Resources.{Listed, Nested, nested_in, nested_at, resource_at}
use Rattle.plan_cells.specs.Scopes.{template_at, owner, nested_of}
use Rattle.plan_cells.specs.Sites as sites
use Rattle.plan_cells.specs.Sites.{Site, Texts, ids_alone, names, symbols, looked_up, by_texts}
use Rattle.plan_cells.specs.Sites.{reading_at, scope_site, body_site}
use Rattle.bicep_resolved.specs.Source.{SourceTree, ValueTree}
use Rattle.bicep_meaning.specs.Around.{Here}
use Rattle.bicep_meaning.specs.Declared.{whole}
use Rattle.bicep_meaning.specs.Files.{SourceFile, declaration, symbol_kind}
use Rattle.bicep_meaning.specs.Instances as program
use Rattle.bicep_meaning.specs.Instances.{SourceProgram, Put, put_of, file_at, in_file, of_file, frames_of}
use Rattle.bicep_meaning.specs.Instances.{argument_of, argument_at, default_of, default_named, symbol_folded}
use Rattle.bicep_meaning.specs.Instances.{parameter_numbered, is_parameter, given_for}
use Rattle.bicep_meaning.specs.Meaning.{value, value_of}
use Rattle.bicep_emission.specs.Alike.{seen_in}
use Rattle.cell_renaming.specs.Renaming.{to_position}
use Rattle.cell_renaming.proofs.OptionLemmas.{of_both, of_then, of_map}
use Rattle.source_worlds.specs.Numbers.{number_of, numbering}
use Rattle.source_worlds.proofs.NumberLemmas as numbers
use Rattle.emitted_trees.specs.EmittedTrees.{tree_of}
use Rattle.emitted_sites.specs.Values.{AreBoth, IsTree}
use Rattle.emitted_sites.specs.Files.{IsParameter, IsArgument, IsBody, IsResource, IsEmitted, emission, default_at}
use Rattle.emitted_sites.specs.Files as files_of
use Rattle.emitted_sites.proofs.AbsentLemmas.{Match, resource_matches}
use Rattle.emitted_sites.specs.Marks.{IsMarked}
use Rattle.emitted_sites.specs.Sites.{IsInstance}
use Rattle.emitted_sites.proofs.SiteLemmas.{site_alike}
use Rattle.emitted_programs.specs.Given.{IsBoundTo, IsBound}
use Rattle.emitted_programs.specs.Sound.{IsSoundProgram}
use Rattle.emitted_programs.proofs.AboveLemmas.{counted_scope, included_admitted, small_index}
use Rattle.emitted_programs.proofs.InstanceLemmas as instances
use Rattle.emitted_programs.proofs.OptionLemmas.{Side, sees, Same, same_map, other_of}
use Rattle.emitted_programs.proofs.ResourceLemmas.{put_number, loops_are}
use Rattle.emitted_programs.proofs.ScopeLemmas.{r, v, t, own_by, matches, instance_of, constant_seen}
use Rattle.emitted_programs.proofs.ScopeLemmas as scopes

-- ---- symbols

numbered_if : (b : Bool) (k n : ℕ) → (if b then Some k else None) ≡ Some n → Some k ≡ Some n
numbered_if true k n e = e
numbered_if false k n e = absurd cc

numbered_is : (f : SourceFile) (o : Option ℕ) (n : ℕ) → parameter_numbered f o ≡ Some n → o ≡ Some n
numbered_is f None n e = absurd cc
numbered_is f (Some k) n e = numbered_if (is_parameter (symbol_kind f k)) k n e

default_is : (files : List SourceFile) (f : SourceFile) (x : List ℕ) (n : ℕ) → program.parameter_named x f ≡ Some n
    → default_named x f ≡ default_at files f n
default_is files f x n e =
    ap (λ o. option_and_then default_of (option_and_then (declaration f) o))
    (numbered_is f (symbol_folded f x) n e)

-- ---- arguments of a module

module_arguments : (files : List SourceFile) (f : SourceFile) (a : Put) (c : BodyTree) (n : Nested)
    → IsBody files f a c → nested_in c ≡ Some n → (x : List ℕ)
    → AreBoth (IsArgument files f a) (argument_of x (declaration f a.number))
    (files_of.argument_named files f x n.arguments)
module_arguments files f a (body_members ms) n h e x = absurd cc
module_arguments files f a (deployment s xs y) n h e x =
    subst
    (λ (n : Nested). AreBoth (IsArgument files f a) (argument_of x (declaration f a.number))
    (files_of.argument_named files f x n.arguments)) (same_some e) (h.arguments x)

module _ (z : Form) (d : SourceProgram) (u : TemplateTree) (bound : List (List ℕ × BoundMeaning))
    (m : IsEmitted z d.files u) (sound : IsSoundProgram d) (given : IsBound d u bound) (w : World)
    (marked : IsMarked z d w) where
  abbrev rw : Side
  rw = v z d u bound m sound w marked

  abbrev sw : Side
  sw = scopes.sw z d u bound m sound w marked

  abbrev dep : template.Deployment
  dep = t z d u bound m sound w marked

  abbrev At : Position → Position → Type 0
  At p q = to_position (r z d u bound m sound w marked) p ≡ Some q

  of_file_is : {A : Type 0} (p : Position) (f : SourceFile) (find : SourceFile → Option A)
      (g : A → Here → Reads Json) → file_at d.files p ≡ Some f
      → of_file d p find g ≡ option_map (λ a. in_file d p f (g a)) (find f)
  of_file_is p f find g e = ap (option_and_then (λ f. option_map (λ a. in_file d p f (g a)) (find f))) e

  -- ---- defaults

  module _ (p q : Position) (f : SourceFile) (at : IsInstance z d w p q f) (x : List ℕ) (n : ℕ) (y : Parameter)
      (named : program.parameter_named x f ≡ Some n) (h : IsParameter d.files f n y) where
    abbrev default_in : SourceTree → Reads Json
    default_in e = in_file d p f (λ here. value here (whole here) e [])

    default_same : Same rw sw (template.default_value dep q y) (program.default_value d p x)
    default_same =
        subst (Same rw sw (template.default_value dep q y))
        (sym
        (of_file_is p f (default_named x) (λ e here. value here (whole here) e []) at.file
        ∙ ap (option_map default_in) (default_is d.files f x n named)))
        (same_map rw sw (λ e v. IsTree (tree_of f d.files (emission d.files f).scope e []) (json v))
        (λ v. reading_at u d.place (scope_site u q) (tree_value (json v))) default_in (default_at d.files f n)
        y.default_value h.default
        (λ e v k l g. site_alike z d u m w marked p q f at (scope_site u q) refl (tree_value (json v))
        (λ here. value here (whole here) e [])
        (instances.default_site z d u m sound w p q f at (scope_site u q) refl e (json v)
        ((sound.files p f at.file).defaults n e k) g)))

  -- ---- the root

  pure_same : (j : Json) → Same rw sw (Some (pure j)) (Some (pure j))
  pure_same j = constant_seen rw j ∙ sym (constant_seen sw j)

  -- a default that reads nothing
  texts_known : (texts : Texts) (place : Place) (e : Site) (j : Json)
      → sees rw (followed (looked_up u place e) (by_texts texts u place e.at (pure j))) ≡ (Some j, false)
  unfolding seen_in followed through
  texts_known ids_alone place e j = refl
  texts_known names place e j = refl
  texts_known symbols place e j = refl

  known_value : (v : Value) (j : Json) → ((around : Surroundings) → tree_value (json v) around ≡ pure j)
      → sees rw (reading_at u d.place (scope_site u []) (tree_value (json v))) ≡ (Some j, false)
  unfolding reading_at owner continued
  known_value v j h =
      ap (λ r. sees rw
      (followed (looked_up u d.place (scope_site u [])) (by_texts (scope_site u []).texts u d.place [] r)))
      (h (record { loops = (scope_site u []).loops; place = d.place }))
      ∙ texts_known (scope_site u []).texts d.place (scope_site u []) j

  instead : (a b : Reads Json) (o : Option (Reads Json)) → sees rw a ≡ sees rw b → Same rw sw (Some a) o
      → Same rw sw (Some b) o
  instead a b None e h = absurd h
  instead a b (Some s) e h = sym e ∙ h

  default_by : (f : SourceFile) → IsInstance z d w [] [] f → (x : List ℕ) (n : ℕ) (y : Parameter)
      → program.parameter_named x f ≡ Some n → IsParameter d.files f n y → (j : Value) → y.default_value ≡ Some j
      → (k : Option Json) → literal (json j) ≡ k
      → template.bound_to dep x ≡ Some (by_literal (json j) (literal (json j))) → IsOrderly (json j)
      → ((k : Json) → literal (json j) ≡ Some k → nesting (json j) ≤ 100)
      → Same rw sw (option_map (template.bound_value dep) (template.bound_to dep x)) (program.default_value d [] x)
  default_by f at x n y e h j c None g b o s =
      subst (λ o. Same rw sw o (program.default_value d [] x))
      (ap (option_map (λ v. reading_at u d.place (scope_site u []) (tree_value (json v)))) c
      ∙ ap (option_map (template.bound_value dep)) (sym (b ∙ ap (λ o. Some (by_literal (json j) o)) g)))
      (default_same [] [] f at x n y e h)
  default_by f at x n y e h j c (Some k) g b o s =
      subst (λ o. Same rw sw o (program.default_value d [] x))
      (ap (option_map (template.bound_value dep)) (sym (b ∙ ap (λ o. Some (by_literal (json j) o)) g)))
      (instead (reading_at u d.place (scope_site u []) (tree_value (json j))) (pure k) (program.default_value d [] x)
      (known_value j k (λ around. known around (json j) k g o (s k g)) ∙ sym (constant_seen rw k))
      (subst (λ o. Same rw sw o (program.default_value d [] x))
      (ap (option_map (λ v. reading_at u d.place (scope_site u []) (tree_value (json v)))) c)
      (default_same [] [] f at x n y e h)))

  root_by : (f : SourceFile) → IsInstance z d w [] [] f → (x : List ℕ) (n : ℕ) (y : Parameter)
      → program.parameter_named x f ≡ Some n → IsParameter d.files f n y → (g : Option Json) (v : Option Value)
      → y.default_value ≡ v → IsBoundTo g v (template.bound_to dep x)
      → Same rw sw (option_map (template.bound_value dep) (template.bound_to dep x))
      (or_else (option_map (λ j. let a : Reads Json = pure j in a) g) (program.default_value d [] x))
  root_by f at x n y e h (Some j) v k b =
      subst (λ o. Same rw sw (option_map (template.bound_value dep) o) (Some (pure j))) (sym b) (pure_same j)
  root_by f at x n y e h None None k b = absurd b
  root_by f at x n y e h None (Some j) k b =
      default_by f at x n y e h j k (literal (json j)) refl b.is b.is_orderly b.is_flat

  -- ---- a scope inside

  module _ (p q : Position) (s : Step) (k : ℕ) (at : At p q)
      (number : (numbering z d.files).number p s.resource ≡ Some k)
      (is_open : is_admitted w (deployments (s ∷ p)) ≡ true)
      (g : SourceFile) (file : file_at d.files p ≡ Some g) (y : TemplateTree) (tree : template_at u q ≡ Some y)
      (match : Match z d.files g y) where
    counted : nat_lt s.copy (copies (w (count p s.resource))) ≡ true
    counted = included_admitted z d w marked.facts p s is_open

    outer_open : is_admitted w (deployments p) ≡ true
    outer_open = counted_scope z d w marked.facts p s counted

    outer : IsInstance z d w p q g
    outer = instance_of z d u bound m sound w marked p q at outer_open g file

    numbered : number_of z g s.resource ≡ Some k
    numbered = sym (ap (option_and_then (λ f. number_of z f s.resource)) file) ∙ number

    abbrev argument_in : Put → ValueTree → Reads Json
    argument_in a v = in_file d p g (λ here. value_of here (whole here) v (frames_of here a s.copy))

    abbrev argument_of_pair : Put × ValueTree → Reads Json
    argument_of_pair a = argument_in a.0 a.1

    argument_there : (a : Put) (b : Listed) (v : ValueTree) (c : Argument) (x : List ℕ)
        → resource_at y k ≡ Some b → IsResource d.files g a b → argument_of x (declaration g s.resource) ≡ Some v
        → IsArgument d.files g a v c
        → sees rw
        (reading_at u d.place (body_site u q (step k s.copy)) (template.content_value (codes "value") c.content))
        ≡ sees sw (argument_in a v)
    argument_there a b v c x e i l n =
        site_alike z d u m w marked p q g outer (body_site u q (step k s.copy)) refl
        (template.content_value (codes "value") c.content)
        (λ here. value_of here (whole here) v (frames_of here a s.copy))
        (instances.argument_site z d u m sound w p q g outer (body_site u q (step k s.copy)) refl a b i s.copy
        (small_index z d w marked.facts p s counted)
        (loops_are z d u bound m sound w marked p q at outer_open s.resource k number b s.copy
        (ap (option_and_then (λ y. resource_at y k)) tree ∙ e)) v c
        ((sound.files p g file).arguments s.resource x v l) n)

    given_by : (a : Put) (b : Listed) → resource_at y k ≡ Some b → IsResource d.files g a b → (x : List ℕ)
        (n : Parameter) (f : Option (Reads Json)) → Same rw sw (template.default_value dep (step k s.copy ∷ q) n) f
        → (o : Option ValueTree) (c : Option Argument) → argument_of x (declaration g s.resource) ≡ o
        → AreBoth (IsArgument d.files g a) o c
        → Same rw sw (template.given_or_default dep q (step k s.copy) n c)
        (or_else (option_map argument_of_pair (option_map (λ v. (a, v)) o)) f)
    given_by a b e i x n f h None None l j = h
    given_by a b e i x n f h None (Some c) l j = absurd j
    given_by a b e i x n f h (Some v) None l j = absurd j
    given_by a b e i x n f h (Some v) (Some c) l j = argument_there a b v c x e i l j

    given_same : (nested : Nested) → nested_at y k ≡ Some nested → (x : List ℕ) (n : Parameter)
        (f : Option (Reads Json)) → Same rw sw (template.default_value dep (step k s.copy ∷ q) n) f
        → Same rw sw
        (template.given_or_default dep q (step k s.copy) n (template.argument_named dep x (Some nested)))
        (or_else (program.argument_value d p s x) f)
    given_same nested e x n f h =
        let b = of_then (resource_at y k) (λ (r : Listed). nested_in r.content) nested e in
        let a = put_there b.left b.first in
        subst (λ o. Same rw sw
        (template.given_or_default dep q (step k s.copy) n (template.argument_named dep x (Some nested)))
        (or_else o f))
        (sym
        (of_file_is p g (argument_at x s.resource)
        (λ a here. value_of here (whole here) a.1 (frames_of here a.0 s.copy)) file
        ∙ ap (λ o. option_map argument_of_pair
        (option_and_then (λ y. option_map (λ v. (y, v)) (argument_of x (declaration g s.resource))) o)) a.1.0))
        (given_by a.0 b.left b.first a.1.1 x n f h (argument_of x (declaration g s.resource))
        (template.argument_named dep x (Some nested)) refl
        (subst (λ n. AreBoth (IsArgument d.files g a.0) (argument_of x (declaration g n))
        (files_of.argument_named d.files g x nested.arguments)) (put_number g s.resource a.0 a.1.0)
        (module_arguments d.files g a.0 b.left.content nested a.1.1.content b.made x)))
      where
        by_put : (b : Listed) (o : Option Put) → put_of s.resource g ≡ o → AreBoth (IsResource d.files g) o (Some b)
            → (a : Put) × ((put_of s.resource g ≡ Some a) × IsResource d.files g a b)
        by_put b None e h = absurd h
        by_put b (Some a) e h = (a, (e, h))

        put_there : (b : Listed) → resource_at y k ≡ Some b
            → (a : Put) × ((put_of s.resource g ≡ Some a) × IsResource d.files g a b)
        put_there b e =
            by_put b (put_of s.resource g) refl
            (subst (AreBoth (IsResource d.files g) (put_of s.resource g)) e
            (resource_matches z d.files g y match k (Some s.resource) (numbers.there z g s.resource k numbered)))

  -- ---- a parameter

  abbrev ParameterSame : Position → Position → List ℕ → Parameter → Type 0
  ParameterSame p q x y =
      Same rw sw (template.parameter_value dep q x y)
      (or_else (program.given_value d p x) (program.default_value d p x))

  root_is : (f : SourceFile) → IsInstance z d w [] [] f → (x : List ℕ) (n : ℕ) (y : Parameter)
      → program.parameter_named x f ≡ Some n → option_and_then (sites.parameter_named x) (template_at u []) ≡ Some y
      → IsParameter d.files f n y → ParameterSame [] [] x y
  unfolding template_at
  root_is f at x n y e k h = root_by f at x n y e h (given_for d.given x) y.default_value refl (given x y k)

  inside_is : (p q : Position) (s : Step) (k : ℕ) → At p q
      → (numbering z d.files).number p s.resource ≡ Some k → (f : SourceFile)
      → IsInstance z d w (s ∷ p) (step k s.copy ∷ q) f → (x : List ℕ) (n : ℕ) (y : Parameter)
      → program.parameter_named x f ≡ Some n → (c : TemplateTree) → template_at u (step k s.copy ∷ q) ≡ Some c
      → IsParameter d.files f n y → ParameterSame (s ∷ p) (step k s.copy ∷ q) x y
  unfolding template_at
  inside_is p q s k at number f inst x n y e c tree h =
      let nested = of_map (nested_of u q (step k s.copy)) (λ (n : Nested). n.template) c tree in
      let up = of_then (template_at u q) (λ y. nested_at y k) nested.left nested.first in
      let g = of_then (file_at d.files p) (λ f. number_of z f s.resource) k number in
      let match = other_of (Match z d.files) g.left (template_at u q)
      (subst (λ o. AreBoth (Match z d.files) o (template_at u q)) g.first
      (matches z d u bound m sound w marked p q at
      (outer_open_of p q s k at number inst.is_there))) in
      subst (λ o. Same rw sw (template.given_or_default dep q (step k s.copy) y (template.argument_named dep x o))
      (or_else (program.argument_value d p s x) (program.default_value d (s ∷ p) x))) (sym nested.first)
      (given_same p q s k at number inst.is_there g.left g.first match.other match.is match.both nested.left
      (ap (λ o. option_and_then (λ y. nested_at y k) o) (sym match.is) ∙ nested.first) x y
      (program.default_value d (s ∷ p) x)
      (default_same (s ∷ p) (step k s.copy ∷ q) f inst x n y e h))
    where
      outer_open_of : (p q : Position) (s : Step) (k : ℕ) → At p q
          → (numbering z d.files).number p s.resource ≡ Some k → is_admitted w (deployments (s ∷ p)) ≡ true
          → is_admitted w (deployments p) ≡ true
      outer_open_of p q s k at number o =
          counted_scope z d w marked.facts p s (included_admitted z d w marked.facts p s o)

  by_place : (p q : Position) → At p q → (f : SourceFile) → IsInstance z d w p q f → (x : List ℕ) (n : ℕ)
      (y : Parameter) → program.parameter_named x f ≡ Some n → (c : TemplateTree) → template_at u q ≡ Some c
      → option_and_then (sites.parameter_named x) (template_at u q) ≡ Some y → IsParameter d.files f n y
      → ParameterSame p q x y
  by_place [] q at f inst x n y e c tree k h =
      let same : [] ≡ q = same_some at in
      at_root q (sym same) inst k
    where
      at_root : (q : Position) → q ≡ [] → IsInstance z d w [] q f
          → option_and_then (sites.parameter_named x) (template_at u q) ≡ Some y → ParameterSame [] q x y
      at_root [] g inst k = root_is f inst x n y e k h
      at_root (a ∷ q) g inst k = absurd cc
  by_place (s ∷ p) q at f inst x n y e c tree k h =
      let b = of_both (to_position (r z d u bound m sound w marked) p) ((numbering z d.files).number p s.resource)
      (λ q m. step m s.copy ∷ q) q at in
      subst (λ q. IsInstance z d w (s ∷ p) q f → template_at u q ≡ Some c → ParameterSame (s ∷ p) q x y) b.made
      (λ inst tree. inside_is p b.left s b.right b.first b.second f inst x n y e c tree h) inst tree

  module _ (p q : Position) (at : At p q) (is_open : is_admitted w (deployments p) ≡ true) (x : List ℕ) where
    abbrev entry_of : Option ℕ → Option (Reads Json)
    entry_of o = option_and_then (λ n. or_else (program.given_value d p x) (program.default_value d p x)) o

    by_entry : (f : SourceFile) → IsInstance z d w p q f → (c : TemplateTree) → template_at u q ≡ Some c
        → (n : Option ℕ) (y : Option Parameter) → program.parameter_named x f ≡ n
        → option_and_then (sites.parameter_named x) (template_at u q) ≡ y → AreBoth (IsParameter d.files f) n y
        → Same rw sw (option_and_then (template.parameter_value dep q x) y) (entry_of n)
    by_entry f inst c tree None None e k h = tt
    by_entry f inst c tree None (Some y) e k h = absurd h
    by_entry f inst c tree (Some n) None e k h = absurd h
    by_entry f inst c tree (Some n) (Some y) e k h = by_place p q at f inst x n y e c tree k h

    by_scope : (o : Option SourceFile) (c : Option TemplateTree) → file_at d.files p ≡ o → template_at u q ≡ c
        → AreBoth (Match z d.files) o c
        → Same rw sw
        (option_and_then (template.parameter_value dep q x) (option_and_then (sites.parameter_named x) c))
        (entry_of (option_and_then (program.parameter_named x) o))
    by_scope None None e k h = tt
    by_scope None (Some c) e k h = absurd h
    by_scope (Some f) None e k h = absurd h
    by_scope (Some f) (Some c) e k h =
        by_entry f (instance_of z d u bound m sound w marked p q at is_open f e) c k (program.parameter_named x f)
        (sites.parameter_named x c) refl (ap (option_and_then (sites.parameter_named x)) k) (h.parameters x)

    pub same_parameter : Same rw sw (template.raw dep (parameter q x)) (program.raw d (parameter p x))
    unfolding template.raw program.raw
    same_parameter =
        subst (λ o. Same rw sw o (program.parameter_value d p x))
        (sym
        (ap (λ b. if b then template.of_scope dep q (sites.parameter_named x) (template.parameter_value dep q x)
        else None) (own_by z d u bound m sound w marked q)))
        (by_scope (file_at d.files p) (template_at u q) refl refl
        (matches z d u bound m sound w marked p q at is_open))
