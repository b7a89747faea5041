-- A cell that is not listed where its parent admits it is not declared by the template.
use Rattle.std.proofs.Common.{◌≡◌, inl, ℕ, ◌+◌, Bool, true, false, true≢false, List, [], ◌∷◌}
use Rattle.std.proofs.Common.{◌++◌, map, Option, Some, None, refl, sym, ap, subst, ◌∙◌, arith}
use Rattle.std.specs.Prelude.{nat_lt, option_map, option_and_then, if◌then◌else◌}
use Rattle.template_parameters.specs.Json.{Json}
use Rattle.foundation.proofs.Comparisons.{lt_of_true}
use Rattle.deploy_cells.specs.Guarded.{Reads}
use Rattle.template_parameters.specs.Tree.{TemplateTree}
use Rattle.deploy_cells.specs.Cells.{Step, Position, Cell, parameter, variable, offered, output, count, included, name, deployments, state, parent, copies, admits}
use Rattle.deploy_cells.specs.Listing.{listing_value}
use Rattle.plan_cells.specs.Resources.{resource_at, resources_in, header_in, nested_numbers}
use Rattle.plan_cells.specs.Scopes.{template_at}
use Rattle.plan_cells.specs.Sites.{parameter_named, variable_named, output_named}
use Rattle.plan_cells.specs.Meaning.{Deployment, is_own, of_scope, raw, parameter_value, variable_value}
use Rattle.plan_cells.specs.Meaning.{offered_value, count_value}
use Rattle.plan_cells.specs.Desired.{is_state}
use Rattle.plan_cells.specs.Children.{Has, parameter_names, variable_names, output_names, numbers_in, own_cells}
use Rattle.plan_cells.specs.Children.{scope_cells, opened_cells, steps, roots, children}
use Rattle.plan_cells.proofs.ListLemmas.{has_left, has_right, has_map, not_named, not_numbered, has_step}
use Rattle.template_parameters.specs.Kinds.{is_true}

module _ (d : Deployment) where
  -- the parts of a scope's cells
  in_own : (p : Position) (u : TemplateTree) (c : Cell) → is_own d p ≡ true → Has c (own_cells true p u)
      → Has c (scope_cells d p u)
  in_own p u c e h =
      has_left c (own_cells (is_own d p) p u)
      (map (offered p) (output_names u) ++ (map (count p) (numbers_in u) ++ deployments p ∷ []))
      (subst (λ b. Has c (own_cells b p u)) (sym e) h)

  in_rest : (p : Position) (u : TemplateTree) (c : Cell)
      → Has c (map (offered p) (output_names u) ++ (map (count p) (numbers_in u) ++ deployments p ∷ []))
      → Has c (scope_cells d p u)
  in_rest p u c h =
      has_right c (own_cells (is_own d p) p u)
      (map (offered p) (output_names u) ++ (map (count p) (numbers_in u) ++ deployments p ∷ [])) h

  in_counts : (p : Position) (u : TemplateTree) (c : Cell) → Has c (map (count p) (numbers_in u) ++ deployments p ∷ [])
      → Has c (scope_cells d p u)
  in_counts p u c h =
      in_rest p u c
      (has_right c (map (offered p) (output_names u)) (map (count p) (numbers_in u) ++ deployments p ∷ []) h)

  has_parameter : (p : Position) (u : TemplateTree) (x : List ℕ) → is_own d p ≡ true → Has x (parameter_names u)
      → Has (parameter p x) (scope_cells d p u)
  has_parameter p u x e h =
      in_own p u (parameter p x) e
      (has_left (parameter p x) (map (parameter p) (parameter_names u)) (map (variable p) (variable_names u))
      (has_map (parameter p) x (parameter_names u) h))

  has_variable : (p : Position) (u : TemplateTree) (x : List ℕ) → is_own d p ≡ true → Has x (variable_names u)
      → Has (variable p x) (scope_cells d p u)
  has_variable p u x e h =
      in_own p u (variable p x) e
      (has_right (variable p x) (map (parameter p) (parameter_names u)) (map (variable p) (variable_names u))
      (has_map (variable p) x (variable_names u) h))

  has_offered : (p : Position) (u : TemplateTree) (x : List ℕ) → Has x (output_names u)
      → Has (offered p x) (scope_cells d p u)
  has_offered p u x h =
      in_rest p u (offered p x)
      (has_left (offered p x) (map (offered p) (output_names u)) (map (count p) (numbers_in u) ++ deployments p ∷ [])
      (has_map (offered p) x (output_names u) h))

  has_count : (p : Position) (u : TemplateTree) (r : ℕ) → Has r (numbers_in u) → Has (count p r) (scope_cells d p u)
  has_count p u r h =
      in_counts p u (count p r)
      (has_left (count p r) (map (count p) (numbers_in u)) (deployments p ∷ []) (has_map (count p) r (numbers_in u) h))

  has_deployments : (p : Position) (u : TemplateTree) → Has (deployments p) (scope_cells d p u)
  has_deployments p u =
      in_counts p u (deployments p)
      (has_right (deployments p) (map (count p) (numbers_in u)) (deployments p ∷ []) (inl refl))

  -- where nothing is found
  nothing_of : {A : Type 0} (g : A → Option (Reads Json)) (o : Option A) → o ≡ None → option_and_then g o ≡ None
  nothing_of g o e = ap (option_and_then g) e

  where_own : (b : Bool) (o : Option (Reads Json)) → (b ≡ true → o ≡ None) → (if b then o else None) ≡ None
  where_own true o h = h refl
  where_own false o h = refl

  no_parameter : (p : Position) (x : List ℕ) (o : Option TemplateTree) → template_at d.template p ≡ o
      → (Has (parameter p x) (opened_cells d p o) → ⊥) → is_own d p ≡ true
      → of_scope d p (parameter_named x) (parameter_value d p x) ≡ None
  no_parameter p x None e h i =
      ap (λ t. option_and_then (parameter_value d p x) (option_and_then (parameter_named x) t)) e
  no_parameter p x (Some u) e h i =
      ap (λ t. option_and_then (parameter_value d p x) (option_and_then (parameter_named x) t)) e
      ∙ nothing_of (parameter_value d p x) (parameter_named x u)
      (not_named (λ y. y.name) x (header_in u).parameters (λ z. h (has_parameter p u x i z)))

  no_variable : (p : Position) (x : List ℕ) (o : Option TemplateTree) → template_at d.template p ≡ o
      → (Has (variable p x) (opened_cells d p o) → ⊥) → is_own d p ≡ true
      → of_scope d p (variable_named x) (λ v. Some (variable_value d p v)) ≡ None
  no_variable p x None e h i =
      ap (λ t. option_and_then (λ v. Some (variable_value d p v)) (option_and_then (variable_named x) t)) e
  no_variable p x (Some u) e h i =
      ap (λ t. option_and_then (λ v. Some (variable_value d p v)) (option_and_then (variable_named x) t)) e
      ∙ nothing_of (λ v. Some (variable_value d p v)) (variable_named x u)
      (not_named (λ y. y.name) x (header_in u).variables (λ z. h (has_variable p u x i z)))

  undeclared_parameter : (p : Position) (x : List ℕ)
      → (Has (parameter p x) (opened_cells d p (template_at d.template p)) → ⊥) → raw d (parameter p x) ≡ None
  unfolding raw
  undeclared_parameter p x h =
      where_own (is_own d p) (of_scope d p (parameter_named x) (parameter_value d p x))
      (no_parameter p x (template_at d.template p) refl h)

  undeclared_variable : (p : Position) (x : List ℕ)
      → (Has (variable p x) (opened_cells d p (template_at d.template p)) → ⊥) → raw d (variable p x) ≡ None
  unfolding raw
  undeclared_variable p x h =
      where_own (is_own d p) (of_scope d p (variable_named x) (λ v. Some (variable_value d p v)))
      (no_variable p x (template_at d.template p) refl h)

  no_offered : (p : Position) (x : List ℕ) (o : Option TemplateTree) → (Has (offered p x) (opened_cells d p o) → ⊥)
      → option_and_then (λ y. Some (offered_value d p y)) (option_and_then (output_named x) o) ≡ None
  no_offered p x None h = refl
  no_offered p x (Some u) h =
      nothing_of (λ y. Some (offered_value d p y)) (output_named x u)
      (not_named (λ y. y.name) x (header_in u).outputs (λ z. h (has_offered p u x z)))

  undeclared_offered : (p : Position) (x : List ℕ)
      → (Has (offered p x) (opened_cells d p (template_at d.template p)) → ⊥) → raw d (offered p x) ≡ None
  unfolding raw
  undeclared_offered p x h = no_offered p x (template_at d.template p) h

  no_count : (p : Position) (r : ℕ) (o : Option TemplateTree) → (Has (count p r) (opened_cells d p o) → ⊥)
      → option_map (count_value d p) (option_and_then (λ u. resource_at u r) o) ≡ None
  unfolding resource_at
  no_count p r None h = refl
  no_count p r (Some u) h =
      ap (option_map (count_value d p))
      (not_numbered (resources_in u) 0 r (λ z. h (has_count p u r
      (subst (λ (m : ℕ). Has m (numbers_in u)) (let e : 0 + r ≡ r = omega arith in e) z))))

  undeclared_count : (p : Position) (r : ℕ) → (Has (count p r) (opened_cells d p (template_at d.template p)) → ⊥)
      → raw d (count p r) ≡ None
  unfolding raw
  undeclared_count p r h = no_count p r (template_at d.template p) h

  no_deployments : (p : Position) (o : Option TemplateTree) → (Has (deployments p) (opened_cells d p o) → ⊥)
      → option_map (λ t. listing_value p (nested_numbers t)) o ≡ None
  no_deployments p None h = refl
  no_deployments p (Some u) h = absurd (h (has_deployments p u))

  undeclared_deployments : (p : Position) → (Has (deployments p) (opened_cells d p (template_at d.template p)) → ⊥)
      → raw d (deployments p) ≡ None
  unfolding raw
  undeclared_deployments p h = no_deployments p (template_at d.template p) h

  -- what the value of a nested deployment's condition opens
  in_opened : (q : Position) (s : Step) (v : Json) (e : Cell) → is_true (Some v) ≡ true
      → Has e (opened_cells d (s ∷ q) (template_at d.template (s ∷ q))) → Has e (children d (included q s) v)
  unfolding children
  in_opened q s v e t h =
      subst (λ b. Has e (if b then opened_cells d (s ∷ q) (template_at d.template (s ∷ q)) else [])) (sym t) h

  opened_by : (q : Position) (s : Step) (c : Cell) → Some (included q s) ≡ Some c → (e : Cell) (v : Json)
      → is_true (Some v) ≡ true → (Has e (children d c v) → ⊥)
      → Has e (opened_cells d (s ∷ q) (template_at d.template (s ∷ q))) → ⊥
  opened_by q s c i e v t h =
      let f : included q s ≡ c = cc in
      λ z. h (subst (λ x. Has e (children d x v)) f (in_opened q s v e t z))

  is_included : (p : Position) (s : Step) (v : Json) → nat_lt s.copy (copies (Some v)) ≡ true
      → Has (included p s) (children d (count p s.resource) v)
  unfolding children
  is_included p s v e =
      has_left (included p s) (map (included p) (steps s.resource 0 (copies (Some v))))
      (map (name p) (steps s.resource 0 (copies (Some v))))
      (has_map (included p) s (steps s.resource 0 (copies (Some v)))
      (has_step s (copies (Some v)) (lt_of_true s.copy (copies (Some v)) e)))

  is_named : (p : Position) (s : Step) (v : Json) → nat_lt s.copy (copies (Some v)) ≡ true
      → Has (name p s) (children d (count p s.resource) v)
  unfolding children
  is_named p s v e =
      has_right (name p s) (map (included p) (steps s.resource 0 (copies (Some v))))
      (map (name p) (steps s.resource 0 (copies (Some v))))
      (has_map (name p) s (steps s.resource 0 (copies (Some v)))
      (has_step s (copies (Some v)) (lt_of_true s.copy (copies (Some v)) e)))

  is_output : (p : Position) (x : List ℕ) (v : Json) → is_true (Some v) ≡ true
      → Has (output p x) (children d (offered p x) v)
  unfolding children
  is_output p x v t = subst (λ b. Has (output p x) (if b then output p x ∷ [] else [])) (sym t) (inl refl)

  in_children : (b c e : Cell) (v : Json) → Some b ≡ Some c → Has e (children d b v) → (Has e (children d c v) → ⊥) → ⊥
  in_children b c e v i z h = let f : b ≡ c = cc in h (subst (λ x. Has e (children d x v)) f z)

  pub undeclared : (c : Cell) (v : Json) (e : Cell) → parent e ≡ Some c → admits e (Some v) ≡ true
      → (Has e (children d c v) → ⊥) → raw d e ≡ None
  undeclared c v (parameter [] x) i t h = let f : None ≡ Some c = i in absurd (cc)
  undeclared c v (parameter (s ∷ q) x) i t h =
      undeclared_parameter (s ∷ q) x (opened_by q s c i (parameter (s ∷ q) x) v t h)
  undeclared c v (variable [] x) i t h = let f : None ≡ Some c = i in absurd (cc)
  undeclared c v (variable (s ∷ q) x) i t h =
      undeclared_variable (s ∷ q) x (opened_by q s c i (variable (s ∷ q) x) v t h)
  undeclared c v (offered [] x) i t h = let f : None ≡ Some c = i in absurd (cc)
  undeclared c v (offered (s ∷ q) x) i t h =
      undeclared_offered (s ∷ q) x (opened_by q s c i (offered (s ∷ q) x) v t h)
  undeclared c v (count [] r) i t h = let f : None ≡ Some c = i in absurd (cc)
  undeclared c v (count (s ∷ q) r) i t h =
      undeclared_count (s ∷ q) r (opened_by q s c i (count (s ∷ q) r) v t h)
  undeclared c v (deployments []) i t h = let f : None ≡ Some c = i in absurd (cc)
  undeclared c v (deployments (s ∷ q)) i t h =
      undeclared_deployments (s ∷ q) (opened_by q s c i (deployments (s ∷ q)) v t h)
  undeclared c v (output p x) i t h =
      absurd (in_children (offered p x) c (output p x) v i (is_output p x v t) h)
  undeclared c v (included p s) i t h =
      absurd (in_children (count p s.resource) c (included p s) v i (is_included p s v t) h)
  undeclared c v (name p s) i t h =
      absurd (in_children (count p s.resource) c (name p s) v i (is_named p s v t) h)
  undeclared c v (state k) i t h = let f : None ≡ Some c = i in absurd (cc)

  in_roots : (c : Cell) → Has c (opened_cells d [] (template_at d.template [])) → Has c (roots d)
  unfolding roots template_at
  in_roots c h = h

  some_none : (b : Cell) → Some b ≡ None → ⊥
  some_none b e = cc

  pub undeclared_root : (c : Cell) → parent c ≡ None → is_state c ≡ false → (Has c (roots d) → ⊥) → raw d c ≡ None
  undeclared_root (parameter [] x) e s h = undeclared_parameter [] x (λ z. h (in_roots (parameter [] x) z))
  undeclared_root (parameter (t ∷ q) x) e s h = absurd (some_none (included q t) e)
  undeclared_root (variable [] x) e s h = undeclared_variable [] x (λ z. h (in_roots (variable [] x) z))
  undeclared_root (variable (t ∷ q) x) e s h = absurd (some_none (included q t) e)
  undeclared_root (offered [] x) e s h = undeclared_offered [] x (λ z. h (in_roots (offered [] x) z))
  undeclared_root (offered (t ∷ q) x) e s h = absurd (some_none (included q t) e)
  undeclared_root (count [] r) e s h = undeclared_count [] r (λ z. h (in_roots (count [] r) z))
  undeclared_root (count (t ∷ q) r) e s h = absurd (some_none (included q t) e)
  undeclared_root (deployments []) e s h = undeclared_deployments [] (λ z. h (in_roots (deployments []) z))
  undeclared_root (deployments (t ∷ q)) e s h = absurd (some_none (included q t) e)
  undeclared_root (output p x) e s h = absurd (some_none (offered p x) e)
  undeclared_root (included p t) e s h = absurd (some_none (count p t.resource) e)
  undeclared_root (name p t) e s h = absurd (some_none (count p t.resource) e)
  undeclared_root (state k) e s h = absurd (true≢false s)
