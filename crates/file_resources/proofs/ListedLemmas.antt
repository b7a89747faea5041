-- The list of all resources of a template with the resources that are built.
use Rattle.std.proofs.Common.{◌≡◌, ◌+◌, ℕ, zero, suc, Bool, true, false, List, [], ◌∷◌, Option, Some, None}
use Rattle.std.proofs.Common.{refl, sym, ap, ◌∙◌, subst, length}
use Rattle.std.specs.Prelude.{is_some, not, option_and_then, slice_get, if◌then◌else◌}
use Rattle.arm_value.specs.Json.{Json}
use Rattle.template_parts.specs.declared.mode.Form.{Form}
use Rattle.template_parts.specs.declared.mode.Form.TheVariants.{One, Two}
use Rattle.template_tree.specs.Tree.{TemplateTree, Header, template, ResourceTree, resource, no_resources}
use Rattle.template_tree.specs.Tree.{a_resource, trees}
use Rattle.plan_cells.specs.Resources.{Listed, listed_at, listed_trees, unless_existing, resource_at, resources_in}
use Rattle.bicep_declared.specs.Declarations.{DeclaredTree}
use Rattle.bicep_declared.specs.Declarations as d
use Rattle.bicep_meaning.specs.Files.{declaration}
use Rattle.bicep_meaning.specs.Instances.{Put, put_by, put_of}
use Rattle.emitted_dependencies.specs.Dependencies.{dependencies}
use Rattle.source_worlds.specs.Numbers.{is_put, if_put, in_template, symbol_of, name_of}
use Rattle.ordered_emissions.specs.Orders.{IsPaired}
use Rattle.emitted_modules.specs.Files.{IsResource, IsDependent, AreElements, HasSymbol, NoneExist}
use Rattle.emitted_modules.specs.Values.{AreBoth}
use Rattle.emitted_modules.specs.Seen.{Shape, file_in, files_in}
use Rattle.emitted_modules.proofs.ResourceLemmas.{resource_is}
use Rattle.emitted_modules.proofs.ModuleLemmas.{module_is}
use Rattle.emitted_dependencies.proofs.ElementLemmas.{elements_are}
use Rattle.file_resources.specs.Built.{Templates, template_of, symbol_in, needs_of, declared_by, body_in, children}
use Rattle.file_resources.specs.Built.{IsBuiltFor, IsBuilt, AreBuilt}
use Rattle.file_resources.specs.Within.{DependenciesAreWithin, IsWithinBy, IsWithin}
use Rattle.file_resources.proofs.EachLemmas.{EachIs, each_at, passing_each}
use Rattle.file_resources.proofs.NameLemmas.{named}

-- ---- the list

abbrev listed : ResourceTree → Listed
listed r = listed_at None (declared_by r) (body_in r)

module _ (z : Form) (s : Shape) where
  pub childless_by : (n : ℕ) (o : Option TemplateTree) (e : Option DeclaredTree) (r : ResourceTree)
      → IsBuiltFor z s n o e r → children r ≡ no_resources
  childless_by n o None r h = absurd h
  childless_by n o (Some (d.parameter at t)) r h = absurd h
  childless_by n o (Some (d.parameter_with at t x)) r h = absurd h
  childless_by n o (Some (d.variable at v)) r h = absurd h
  childless_by n o (Some (d.a_resource at q true b)) r h = h.childless
  childless_by n o (Some (d.a_resource at q false b)) r h = h.childless
  childless_by n None (Some (d.a_module at b)) r h = absurd h
  childless_by n (Some u) (Some (d.a_module at b)) r h = h.childless

  -- a resource is existing exactly where it is not put
  pub existing_by : (n : ℕ) (o : Option TemplateTree) (e : Option DeclaredTree) (r : ResourceTree)
      → IsBuiltFor z s n o e r → (declared_by r).existing ≡ not (is_some (put_by (file_in s) n e))
  existing_by n o None r h = absurd h
  existing_by n o (Some (d.parameter at t)) r h = absurd h
  existing_by n o (Some (d.parameter_with at t x)) r h = absurd h
  existing_by n o (Some (d.variable at v)) r h = absurd h
  existing_by n o (Some (d.a_resource at q true b)) r h = ap (λ x. x.existing) h.head.is
  existing_by n o (Some (d.a_resource at q false b)) r h = h.head.existing
  existing_by n None (Some (d.a_module at b)) r h = absurd h
  existing_by n (Some u) (Some (d.a_module at b)) r h = h.head.existing

  module _ (us : Templates) where
    -- an entry of the list for the resource of a number
    abbrev pub IsAt : ℕ → Listed → Type 0
    IsAt n x = (r : ResourceTree) × (IsBuilt z s n (template_of us n) r × (x ≡ listed r))

    pub at_place : (ns : List ℕ) (rs : List ResourceTree) → AreBuilt z s us ns rs → (k m : ℕ)
        → AreBoth IsAt (slice_get ns m) (slice_get (listed_trees None k (trees rs)) m)
    at_place [] [] h k m = tt
    at_place [] (r ∷ rs) h k m = absurd h
    at_place (n ∷ ns) [] h k m = absurd h
    at_place (n ∷ ns) (resource x b no_resources ∷ rs) h k zero = (resource x b no_resources, (h.0, refl))
    at_place (n ∷ ns) (resource x b no_resources ∷ rs) h k (suc m) = at_place ns rs h.1 (k + 1) m
    at_place (n ∷ ns) (resource x b (a_resource y ys) ∷ rs) h k m =
        let e = childless_by n (template_of us n) (declaration (file_in s) n) (resource x b (a_resource y ys)) h.0 in
        absurd cc

    module _ (R : Put → Listed → Type 0)
        (one : (n : ℕ) (o : Option TemplateTree) (e : Option DeclaredTree) (r : ResourceTree)
        → declaration (file_in s) n ≡ e → is_some (put_by (file_in s) n e) ≡ true → IsBuiltFor z s n o e r
        → AreBoth R (put_by (file_in s) n e) (Some (listed r))) where
      decided : (n : ℕ) (r : ResourceTree) (b : Bool) → is_put (file_in s) n ≡ b → IsBuilt z s n (template_of us n) r
          → AreBoth R (option_and_then (λ n. put_of n (file_in s)) (if b then Some n else None))
          (if not b then None else Some (listed r))
      decided n r true p h = one n (template_of us n) (declaration (file_in s) n) r refl p h
      decided n r false p h = tt

      entry : (n : ℕ) (x : Listed) (b : Bool) → is_put (file_in s) n ≡ b → IsAt n x
          → AreBoth R (option_and_then (λ n. put_of n (file_in s)) (if b then Some n else None)) (unless_existing x)
      entry n x b p a =
          let o = option_and_then (λ n. put_of n (file_in s)) (if b then Some n else None) in
          subst (λ y. AreBoth R o (unless_existing y)) (sym a.1.1)
          (subst (λ c. AreBoth R o (if c then None else Some (listed a.0)))
          (sym (existing_by n (template_of us n) (declaration (file_in s) n) a.0 a.1.0 ∙ ap not p))
          (decided n a.0 b p a.1.0))

      entries : (o : Option ℕ) (q : Option Listed) → AreBoth IsAt o q
          → AreBoth R (option_and_then (λ n. put_of n (file_in s)) (option_and_then (if_put (file_in s)) o))
          (option_and_then unless_existing q)
      entries None None h = tt
      entries None (Some x) h = absurd h
      entries (Some n) None h = absurd h
      entries (Some n) (Some x) h = entry n x (is_put (file_in s) n) refl h

      all_entries : (h : Header) (rs : List ResourceTree) → AreBuilt z s us (in_template z (file_in s)) rs → (m : ℕ)
          → AreBoth R (option_and_then (λ n. put_of n (file_in s)) (symbol_of z (file_in s) m))
          (resource_at (template h (trees rs)) m)
      unfolding resource_at
      all_entries h rs built m =
          let ns = in_template z (file_in s) in
          entries (slice_get ns m) (slice_get (resources_in (template h (trees rs))) m) (at_place ns rs built 0 m)

    module _ (paired : IsPaired (file_in s)) (within : (n : ℕ) → IsWithin z s n) where
      within_by : (n : ℕ) (e : Option DeclaredTree) → declaration (file_in s) n ≡ e → IsWithinBy z s n e
      within_by n e is = subst (IsWithinBy z s n) is (within n)

      resource_at_number : (n : ℕ) (o : Option TemplateTree) (e : Option DeclaredTree) (r : ResourceTree)
          → declaration (file_in s) n ≡ e → is_some (put_by (file_in s) n e) ≡ true → IsBuiltFor z s n o e r
          → AreBoth (IsResource (files_in s) (file_in s)) (put_by (file_in s) n e) (Some (listed r))
      resource_at_number n o None r is p h = absurd h
      resource_at_number n o (Some (d.parameter at t)) r is p h = absurd h
      resource_at_number n o (Some (d.parameter_with at t x)) r is p h = absurd h
      resource_at_number n o (Some (d.variable at v)) r is p h = absurd h
      resource_at_number n o (Some (d.a_resource at q true b)) r is p h = absurd cc
      resource_at_number n o (Some (d.a_resource at q false b)) r is p h =
          resource_is s n b (name_of (file_in s) n) (needs_of z s n (declared_by r).metadata) (declared_by r)
          (body_in r)
          (named (file_in s) paired n (d.a_resource at q false b) is) refl h.head h.body
          (within_by n (Some (d.a_resource at q false b)) is).0
      resource_at_number n None (Some (d.a_module at b)) r is p h = absurd h
      resource_at_number n (Some u) (Some (d.a_module at b)) r is p h =
          module_is s n at b is (name_of (file_in s) n) (needs_of z s n (declared_by r).metadata) u (declared_by r)
          (body_in r)
          (named (file_in s) paired n (d.a_module at b) is) refl h.head h.body
          (within_by n (Some (d.a_module at b)) is).0

      symbol_by : (y : Form) (n : ℕ) (e : DeclaredTree) → declaration (file_in s) n ≡ Some e → (o : Option (List ℕ))
          → o ≡ symbol_in y (name_of (file_in s) n) → HasSymbol (files_in s) (file_in s) y n o
      symbol_by One n e is o h = h
      symbol_by Two n e is o h = h ∙ sym (named (file_in s) paired n e is)

      has_symbol : (n : ℕ) (e : DeclaredTree) → declaration (file_in s) n ≡ Some e → (o : Option (List ℕ))
          → o ≡ symbol_in z (name_of (file_in s) n) → HasSymbol (files_in s) (file_in s) z n o
      has_symbol n e is o h = symbol_by z n e is o h

      depends : (n : ℕ) (j : List Json) → DependenciesAreWithin z s n → j ≡ (needs_of z s n None).depends_on
          → AreElements (files_in s) (file_in s) z (dependencies (file_in s) n) j
      depends n j w e =
          subst (AreElements (files_in s) (file_in s) z (dependencies (file_in s) n)) (sym e)
          (elements_are (files_in s) (file_in s) z (dependencies (file_in s) n) w)

      dependent_at_number : (n : ℕ) (o : Option TemplateTree) (e : Option DeclaredTree) (r : ResourceTree)
          → declaration (file_in s) n ≡ e → is_some (put_by (file_in s) n e) ≡ true → IsBuiltFor z s n o e r
          → AreBoth (IsDependent (files_in s) (file_in s) z) (put_by (file_in s) n e) (Some (listed r))
      dependent_at_number n o None r is p h = absurd h
      dependent_at_number n o (Some (d.parameter at t)) r is p h = absurd h
      dependent_at_number n o (Some (d.parameter_with at t x)) r is p h = absurd h
      dependent_at_number n o (Some (d.variable at v)) r is p h = absurd h
      dependent_at_number n o (Some (d.a_resource at q true b)) r is p h = absurd cc
      dependent_at_number n o (Some (d.a_resource at q false b)) r is p h =
          record {
            symbol = has_symbol n (d.a_resource at q false b) is (declared_by r).symbol h.head.symbol;
            depends_on =
                depends n (declared_by r).depends_on (within_by n (Some (d.a_resource at q false b)) is).1
                h.head.depends_on;
          }
      dependent_at_number n None (Some (d.a_module at b)) r is p h = absurd h
      dependent_at_number n (Some u) (Some (d.a_module at b)) r is p h =
          record {
            symbol = has_symbol n (d.a_module at b) is (declared_by r).symbol h.head.symbol;
            depends_on =
                depends n (declared_by r).depends_on (within_by n (Some (d.a_module at b)) is).1 h.head.depends_on;
          }

      pub resources_are : (h : Header) (rs : List ResourceTree) → AreBuilt z s us (in_template z (file_in s)) rs
          → (m : ℕ)
          → AreBoth (IsResource (files_in s) (file_in s))
          (option_and_then (λ n. put_of n (file_in s)) (symbol_of z (file_in s) m))
          (resource_at (template h (trees rs)) m)
      resources_are h rs built m =
          all_entries (IsResource (files_in s) (file_in s)) resource_at_number h rs built m

      pub dependents_are : (h : Header) (rs : List ResourceTree) → AreBuilt z s us (in_template z (file_in s)) rs
          → (m : ℕ)
          → AreBoth (IsDependent (files_in s) (file_in s) z)
          (option_and_then (λ n. put_of n (file_in s)) (symbol_of z (file_in s) m))
          (resource_at (template h (trees rs)) m)
      dependents_are h rs built m =
          all_entries (IsDependent (files_in s) (file_in s) z) dependent_at_number h rs built m

-- ---- the first form

module _ (s : Shape) (us : Templates) where
  none_exists : (h : Header) (rs : List ResourceTree) → AreBuilt One s us (in_template One (file_in s)) rs → (m : ℕ)
      (x : Listed) → slice_get (resources_in (template h (trees rs))) m ≡ Some x → x.declaration.existing ≡ false
  none_exists h rs built m x is =
      let ns = in_template One (file_in s) in
      by_number (slice_get ns m) refl
      (subst (AreBoth (IsAt One s us) (slice_get ns m)) is (at_place One s us ns rs built 0 m))
    where
      all_put : EachIs (λ n. is_put (file_in s) n ≡ true) (in_template One (file_in s))
      all_put =
          passing_each (λ n. is_put (file_in s) n ≡ true) (is_put (file_in s)) (λ n e. e) 0
          (length (file_in s).declared.declarations)

      by_number : (o : Option ℕ) → slice_get (in_template One (file_in s)) m ≡ o → AreBoth (IsAt One s us) o (Some x)
          → x.declaration.existing ≡ false
      by_number None e a = absurd a
      by_number (Some n) e a =
          ap (λ y. y.declaration.existing) a.1.1
          ∙ existing_by One s n (template_of us n) (declaration (file_in s) n) a.0 a.1.0
          ∙ ap not (each_at (λ n. is_put (file_in s) n ≡ true) (in_template One (file_in s)) m n all_put e)

  pub none_exist : (z : Form) (h : Header) (rs : List ResourceTree) → AreBuilt z s us (in_template z (file_in s)) rs
      → NoneExist (files_in s) (file_in s) z (template h (trees rs))
  none_exist One h rs built = λ m r is. none_exists h rs built m r is
  none_exist Two h rs built = tt
