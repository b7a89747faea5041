-- Something is given for each parameter of an inner scope that has no default.
use Rattle.std.proofs.Common.{◌≡◌, ℕ, Bool, true, false, true≢false, List, [], ◌∷◌, ◌++◌, map, Option, Some}
use Rattle.std.proofs.Common.{None}
use Rattle.std.proofs.Common.{refl, sym, ap, subst, ◌∙◌}
use Rattle.std.specs.Prelude.{option_and_then, if◌then◌else◌}
use Rattle.arm_value.specs.Json.{Json}
use Rattle.arm_value.specs.Kinds.{is_true}
use Rattle.template_parts.specs.declared.fault.BindFault.{BindFault}
use Rattle.template_parts.specs.declared.parameter.Parameter.{Parameter}
use Rattle.template_tree.specs.Tree.{TemplateTree}
use Rattle.deploy_cells.specs.Cells.{Step, Position, Cell, parameter, variable, offered, count, included, deployments}
use Rattle.deploy_cells.specs.Cells.{parent, admits}
use Rattle.plan_cells.specs.Resources.{header_in}
use Rattle.plan_cells.specs.Scopes.{template_at}
use Rattle.plan_cells.specs.Sites.{parameter_named}
use Rattle.plan_cells.specs.Known.{Table}
use Rattle.plan_cells.specs.Meaning.{Deployment, raw, is_own, parameter_value}
use Rattle.plan_cells.specs.Children.{Has, parameter_names, variable_names, output_names, numbers_in, own_cells}
use Rattle.plan_cells.specs.Children.{scope_cells}
use Rattle.plan_cells.specs.Children.{opened_cells, roots, children}
use Rattle.plan_cells.specs.Start.{IsStart}
use Rattle.plan_cells.proofs.ListLemmas.{not_named, has_left, has_map}
use Rattle.plan_filling.specs.Rows.{Status, Row, status_of}
use Rattle.plan_filling.specs.Sound.{Good}
use Rattle.plan_filling.specs.Final.{final}
use Rattle.plan_settling.specs.Refused.{AreSettled}
use Rattle.plan_faults.specs.Known.{AreKnown}
use Rattle.plan_faults.specs.Faults.{IsUngiven, IsExtra}
use Rattle.fault_exactness.proofs.GrowLemmas.{admitted_too}
use Rattle.fault_exactness.proofs.EmptyLemmas.{listed_by, needed_listed, nothing_absent}

named_some : (x : List ℕ) (t : TemplateTree) (y : Parameter) → parameter_named x t ≡ Some y
    → (Has x (parameter_names t) → ⊥) → ⊥
named_some x t y e h =
    let no : None ≡ Some y = sym (not_named (λ p. p.name) x (header_in t).parameters h) ∙ e in cc

module _ (d : Deployment) where
  in_own : (b : Bool) (p : Position) (t : TemplateTree) (x : List ℕ) → b ≡ true → Has x (parameter_names t)
      → Has (parameter p x) (own_cells b p t)
  in_own true p t x e h =
      has_left (parameter p x) (map (parameter p) (parameter_names t)) (map (variable p) (variable_names t))
      (has_map (parameter p) x (parameter_names t) h)
  in_own false p t x e h = absurd (true≢false (sym e))

  in_scope : (p : Position) (t : TemplateTree) (x : List ℕ) → is_own d p ≡ true → Has x (parameter_names t)
      → Has (parameter p x) (scope_cells d p t)
  in_scope p t x e h =
      has_left (parameter p x) (own_cells (is_own d p) p t)
      (map (offered p) (output_names t) ++ (map (count p) (numbers_in t) ++ deployments p ∷ []))
      (in_own (is_own d p) p t x e h)

  in_opened : (p : Position) (o : Option TemplateTree) (x : List ℕ) (y : Parameter) → is_own d p ≡ true
      → option_and_then (parameter_named x) o ≡ Some y → (Has (parameter p x) (opened_cells d p o) → ⊥) → ⊥
  in_opened p None x y own e h = let no : None ≡ Some y = e in cc
  in_opened p (Some t) x y own e h = named_some x t y e (λ z. h (in_scope p t x own z))

  -- a parameter that is declared is listed in its scope
  in_root : (x : List ℕ) (y : Parameter)
      → option_and_then (parameter_named x) (template_at d.template []) ≡ Some y
      → (Has (parameter [] x) (roots d) → ⊥) → ⊥
  unfolding roots template_at
  in_root x y e h = named_some x d.template y e (λ z. h (in_scope [] d.template x refl z))

  in_child : (s : Step) (p : Position) (x : List ℕ) (y : Parameter) (v : Json) → is_own d (s ∷ p) ≡ true
      → option_and_then (parameter_named x) (template_at d.template (s ∷ p)) ≡ Some y → is_true (Some v) ≡ true
      → (Has (parameter (s ∷ p) x) (children d (included p s) v) → ⊥) → ⊥
  unfolding children
  in_child s p x y v own e t h =
      in_opened (s ∷ p) (template_at d.template (s ∷ p)) x y own e
      (λ z. h (subst (λ b. Has (parameter (s ∷ p) x) (if b then opened_cells d (s ∷ p) (template_at d.template (s ∷ p))
      else [])) (sym t) z))

  module _ (x : List ℕ) (y : Parameter) where
    root_lists : (p : Position) → option_and_then (parameter_named x) (template_at d.template p) ≡ Some y
        → parent (parameter p x) ≡ None → (Has (parameter p x) (roots d) → ⊥) → ⊥
    root_lists [] e n h = in_root x y e h
    root_lists (s ∷ p) e n h = let no : Some (included p s) ≡ None = n in cc

    child_lists : (p : Position) → is_own d p ≡ true
        → option_and_then (parameter_named x) (template_at d.template p) ≡ Some y → (b : Cell) (v : Json)
        → parent (parameter p x) ≡ Some b → admits (parameter p x) (Some v) ≡ true
        → (Has (parameter p x) (children d b v) → ⊥) → ⊥
    child_lists [] own e b v n t h = let no : None ≡ Some b = n in cc
    child_lists (s ∷ p) own e b v n t h =
        in_child s p x y v own e t
        (subst (λ (c : Cell). Has (parameter (s ∷ p) x) (children d c v) → ⊥)
        (let same : b ≡ included p s = cc in same) h)

  no_value_given : (p : Position) (x : List ℕ) (y : Parameter) → is_own d p ≡ true
      → option_and_then (parameter_named x) (template_at d.template p) ≡ Some y → parameter_value d p x y ≡ None
      → raw d (parameter p x) ≡ None
  unfolding raw
  no_value_given p x y own e n =
      ap (λ b. if b then option_and_then (parameter_value d p x)
      (option_and_then (parameter_named x) (template_at d.template p)) else None) own
      ∙ ap (option_and_then (parameter_value d p x)) e ∙ n

module _ (d : Deployment) (σ : Cell → Option Status) (good : Good d σ) (is_start : IsStart d (final σ))
    (rows : List Row) (settled : AreSettled rows) (are : (c : Cell) → σ c ≡ status_of rows c)
    (q : Table) (are_known : AreKnown d q) where
  pub never_ungiven : (path : List ℕ) (f : BindFault) → IsUngiven d q path f → ⊥
  never_ungiven path f u =
      let c = parameter u.position u.title in
      let there = admitted_too d q (final σ) are_known is_start c u.is_there in
      needed_listed d σ good is_start rows settled are c refl
      (listed_by d σ good is_start c (root_lists d u.title u.declared u.position u.is_declared)
      (child_lists d u.title u.declared u.position u.is_own u.is_declared) there)
      (nothing_absent d σ good is_start c refl
      (no_value_given d u.position u.title u.declared u.is_own u.is_declared u.has_none) there)

  -- what is extra by some of what is known is extra by all of it
  pub extra_too : (path : List ℕ) (f : BindFault) → IsExtra d q path f → IsExtra d (final σ) path f
  extra_too path f x = record {
    position = x.position;
    instance = x.instance;
    is_own = x.is_own;
    is_there = admitted_too d q (final σ) are_known is_start (deployments (x.instance ∷ x.position)) x.is_there;
    nested = x.nested;
    is_nested = x.is_nested;
    given = x.given;
    is_given = x.is_given;
    has_none = x.has_none;
    is_fault = x.is_fault;
    has_path = x.has_path;
  }
