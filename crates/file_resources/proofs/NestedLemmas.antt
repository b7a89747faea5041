-- The nested deployments of a template with the resources that are built.
use Rattle.std.proofs.Common.{◌≡◌, ◌+◌, ℕ, suc, Bool, true, false, List, [], ◌∷◌, Option, Some, None, map}
use Rattle.std.proofs.Common.{refl, sym, ap, ◌∙◌, subst, arith}
use Rattle.std.specs.List.{filter}
use Rattle.std.specs.Prelude.{is_some, not, option_and_then, slice_get, if◌then◌else◌}
use Rattle.template_parts.specs.declared.mode.Form.{Form}
use Rattle.template_tree.specs.Tree.{TemplateTree, Header, template, ResourceTree, resource, no_resources, a_resource}
use Rattle.template_tree.specs.Tree.{trees}
use Rattle.template_tree.specs.Tree as body
use Rattle.plan_cells.specs.Resources.{listed_trees, nested_in, nested_from, nested_numbers}
use Rattle.bicep_declared.specs.Declarations.{DeclaredTree}
use Rattle.bicep_declared.specs.Declarations as d
use Rattle.bicep_meaning.specs.Files.{SourceFile, declaration}
use Rattle.bicep_meaning.specs.Instances.{put_by}
use Rattle.source_worlds.specs.Numbers.{is_put, if_put, in_template, number_of}
use Rattle.source_worlds.proofs.NumberLemmas.{back}
use Rattle.emitted_modules.specs.Seen.{Shape, file_in}
use Rattle.emitted_modules.specs.Limits.{members_at}
use Rattle.emitted_modules.specs.Modules.{IsDeployment}
use Rattle.emitted_modules.specs.Resources.{HasMembers}
use Rattle.file_resources.specs.Built.{Templates, template_of, body_in, IsBuiltFor, AreBuilt}
use Rattle.file_resources.specs.Modules.{is_module_by, is_module, modules_in}
use Rattle.file_resources.proofs.ListedLemmas.{childless_by, existing_by}

-- ---- modules among what is put

module _ (f : SourceFile) where
  put_by_module : (n : ℕ) (o : Option DeclaredTree) → is_module_by o ≡ true → is_some (put_by f n o) ≡ true
  put_by_module n None e = absurd cc
  put_by_module n (Some (d.parameter at t)) e = absurd cc
  put_by_module n (Some (d.parameter_with at t x)) e = absurd cc
  put_by_module n (Some (d.variable at v)) e = absurd cc
  put_by_module n (Some (d.a_resource at q existing b)) e = absurd cc
  put_by_module n (Some (d.a_module at b)) e = refl

  is_put_too : (n : ℕ) → is_module f n ≡ true → is_put f n ≡ true
  is_put_too n e = put_by_module n (declaration f n) e

  -- where the modules are among these numbers, counted from k on
  abbrev positions : ℕ → List ℕ → List ℕ
  positions k [] = []
  positions k (n ∷ ns) = if is_module f n then k ∷ positions (suc k) ns else positions (suc k) ns

  module _ (z : Form) where
    number_is : (n k : ℕ) → is_module f n ≡ true → slice_get (in_template z f) k ≡ Some n
        → number_of z f n ≡ Some k
    number_is n k e h =
        back z f k n
        (ap (option_and_then (if_put f)) h ∙ ap (λ b. if b then Some n else None) (is_put_too n e))

    numbers_are : (ns : List ℕ) (k : ℕ)
        → ((j x : ℕ) → slice_get ns j ≡ Some x → slice_get (in_template z f) (k + j) ≡ Some x)
        → map (number_of z f) (filter (is_module f) ns) ≡ map (λ m. Some m) (positions k ns)
    numbers_are [] k h = refl
    numbers_are (n ∷ ns) k h =
        by_test (is_module f n) refl (numbers_are ns (suc k) (λ j x e. at_sum (k + suc j) (suc k + j) x (h (suc j) x e)
        (omega arith)))
      where
        at_sum : (i j x : ℕ) → slice_get (in_template z f) i ≡ Some x → i ≡ j
            → slice_get (in_template z f) j ≡ Some x
        at_sum i j x e q = subst (λ m. slice_get (in_template z f) m ≡ Some x) q e

        by_test : (b : Bool) → is_module f n ≡ b
            → map (number_of z f) (filter (is_module f) ns) ≡ map (λ m. Some m) (positions (suc k) ns)
            → map (number_of z f) (if b then n ∷ filter (is_module f) ns else filter (is_module f) ns)
            ≡ map (λ m. Some m) (if b then k ∷ positions (suc k) ns else positions (suc k) ns)
        by_test true e r =
            let q = number_is n k e (at_sum (k + 0) k n (h 0 n refl) (omega arith)) in
            λ i. q i ∷ r i
        by_test false e r = r

-- ---- the list of resources

module _ (z : Form) (s : Shape) where
  nested_is : (n : ℕ) (o : Option TemplateTree) (e : Option DeclaredTree) (r : ResourceTree) (b : body.BodyTree)
      → b ≡ body_in r → IsBuiltFor z s n o e r → is_some (nested_in b) ≡ is_module_by e
  nested_is n o None r b q h = absurd h
  nested_is n o (Some (d.parameter at t)) r b q h = absurd h
  nested_is n o (Some (d.parameter_with at t x)) r b q h = absurd h
  nested_is n o (Some (d.variable at v)) r b q h = absurd h
  nested_is n o (Some (d.a_resource at w true c)) r b q h =
      ap (λ x. is_some (nested_in x)) (q ∙ h.body)
  nested_is n o (Some (d.a_resource at w false c)) r (body.body_members ms) q h = refl
  nested_is n o (Some (d.a_resource at w false c)) r (body.deployment scope args u) q h =
      absurd (subst (HasMembers (members_at s n c)) (sym q) h.body)
  nested_is n None (Some (d.a_module at c)) r b q h = absurd h
  nested_is n (Some v) (Some (d.a_module at c)) r (body.body_members ms) q h =
      absurd (subst (IsDeployment s n c v) (sym q) h.body)
  nested_is n (Some v) (Some (d.a_module at c)) r (body.deployment scope args u) q h = refl

  -- what is no module is no nested deployment, also where it is not put
  nested_put : (n : ℕ) (e : Option DeclaredTree) (t : Bool) → t ≡ is_module_by e
      → (if not (is_some (put_by (file_in s) n e)) then false else t) ≡ is_module_by e
  nested_put n None t h = refl
  nested_put n (Some (d.parameter at k)) t h = refl
  nested_put n (Some (d.parameter_with at k x)) t h = refl
  nested_put n (Some (d.variable at v)) t h = refl
  nested_put n (Some (d.a_resource at q true b)) t h = refl
  nested_put n (Some (d.a_resource at q false b)) t h = h
  nested_put n (Some (d.a_module at b)) t h = h

  module _ (us : Templates) where
    nested_are : (ns : List ℕ) (rs : List ResourceTree) → AreBuilt z s us ns rs → (c k : ℕ)
        → nested_from k (listed_trees None c (trees rs)) ≡ positions (file_in s) k ns
    nested_are [] [] h c k = refl
    nested_are [] (r ∷ rs) h c k = absurd h
    nested_are (n ∷ ns) [] h c k = absurd h
    nested_are (n ∷ ns) (resource x b no_resources ∷ rs) h c k =
        let r = resource x b no_resources in
        let o = template_of us n in
        let e = declaration (file_in s) n in
        let here = ap (λ t. if t then false else is_some (nested_in b)) (existing_by z s n o e r h.0)
        ∙ nested_put n e (is_some (nested_in b)) (nested_is n o e r b refl h.0) in
        let later = nested_are ns rs h.1 (c + 1) (suc k) in
        λ i. if here i then k ∷ later i else later i
    nested_are (n ∷ ns) (resource x b (a_resource y ys) ∷ rs) h c k =
        let e = childless_by z s n (template_of us n) (declaration (file_in s) n) (resource x b (a_resource y ys)) h.0
        in
        absurd cc

    pub modules_are : (h : Header) (rs : List ResourceTree) → AreBuilt z s us (in_template z (file_in s)) rs
        → map (number_of z (file_in s)) (modules_in z (file_in s))
        ≡ map (λ m. Some m) (nested_numbers (template h (trees rs)))
    modules_are h rs built =
        let f = file_in s in
        let ns = in_template z f in
        numbers_are f z ns 0 (λ j x e. subst (λ i. slice_get ns i ≡ Some x) (from_zero j) e)
        ∙ ap (map (λ m. Some m)) (sym (nested_are ns rs built 0 0))
      where
        from_zero : (j : ℕ) → j ≡ 0 + j
        from_zero j = omega arith
