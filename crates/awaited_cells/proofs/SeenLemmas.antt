-- What an expression of a scope asks for it may see.
use Rattle.std.proofs.Common.{◌≡◌, ℕ, zero, suc, Bool, true, false, List, [], ◌∷◌, ◌++◌, map, Option, Some, None}
use Rattle.std.proofs.Common.{inl, inr, refl, sym, ap, subst}
use Rattle.std.specs.Prelude.{is_some, not, if◌then◌else◌}
use Rattle.arm_value.specs.Look.{fold}
use Rattle.arm_value.specs.Kinds.{is_true}
use Rattle.arm_ids.specs.declared.id.Place.{Place}
use Rattle.arm_ids.specs.declared.id.ResourceId.{ResourceId}
use Rattle.arm_env.specs.declared.env.Spelled.{Spelled}
use Rattle.arm_env.specs.Find.{first_named, names_key}
use Rattle.arm_env.specs.Look as look
use Rattle.arm_env.specs.Look.{Look, Looking, Surroundings}
use Rattle.reading.specs.Reading.{done, ask, pure, read, continued}
use Rattle.template_parts.specs.declared.output.Output.{Output}
use Rattle.template_tree.specs.Tree.{TemplateTree}
use Rattle.deploy_cells.specs.Cells.{step, Position, Cell, parameter, variable, offered, output, count, name}
use Rattle.deploy_cells.specs.Cells.{deployments, state, copies}
use Rattle.deploy_cells.specs.Listing.{sought, Sought, found, left_away, not_here, listing_of}
use Rattle.deploy_cells.specs.Same.{same_id}
use Rattle.plan_cells.specs.Children.{Has, own_cells, parameter_names, variable_names}
use Rattle.plan_cells.specs.Meaning.{Deployment, is_own}
use Rattle.plan_cells.specs.Reads.{entry_cells, of_template}
use Rattle.plan_cells.specs.Resources.{Listed, header_in}
use Rattle.plan_cells.specs.Scopes.{template_at, owner, visible, is_outer, nested_of, own_place, with_deployment}
use Rattle.plan_cells.specs.Sites.{Texts, ids_alone, names, symbols, Site, parameter_named, variable_named}
use Rattle.plan_cells.specs.Sites.{output_named, value_of, declared_value, declares, deployment_key, Found, instance}
use Rattle.plan_cells.specs.Sites.{is_left_away, is_nowhere, found_or, nested_numbers_at, seek, truth_of_found}
use Rattle.plan_cells.specs.Sites.{where_offered, output_at, kept_output, offered_outputs, outputs_in, outputs_at}
use Rattle.plan_cells.specs.Sites.{spelled_by, instances_spelled, resource_spelled, all_spelled, first_name, concat}
use Rattle.plan_cells.specs.Sites.{named_or, seek_name, key_by, all_but_first, listed_at_scope}
use Rattle.plan_cells.specs.Sites.{named_by_texts, looked_up, by_texts, reading_in, reading_at}
use Rattle.plan_cells.proofs.ListLemmas.{has_left, has_right, has_map}
use Rattle.history_laws.proofs.OneWorld.{named_parameter, named_variable, named_output}
use Rattle.awaited_cells.specs.Awaited.{IsDeclaredAt, MaySee}
use Rattle.awaited_cells.proofs.AskLemmas.{Asks, continued_asks, followed_asks}

-- ---- what a scope declares

record Declared {A : Type 0} (f : TemplateTree → Option A) (o : Option TemplateTree) : Type 0 where
  template : TemplateTree
  is_there : o ≡ Some template
  part : A
  is_part : f template ≡ Some part

declared : {A : Type 0} (f : TemplateTree → Option A) (o : Option TemplateTree) → declares f o ≡ true → Declared f o
declared {A} f None e = let g : false ≡ true = e in absurd (cc)
declared {A} f (Some t) e = by_part (f t) refl e
  where
    by_part : (p : Option A) → f t ≡ p → is_some p ≡ true → Declared f (Some t)
    by_part None h g = let i : false ≡ true = g in absurd (cc)
    by_part (Some a) h g = record { template = t; is_there = refl; part = a; is_part = h }

owner_is_own : (d : Deployment) (p : Position) → is_own d (owner d.template p) ≡ true
unfolding owner
owner_is_own d [] = refl
owner_is_own d (s ∷ p) = by_outer (owner_is_own d p) (is_outer (nested_of d.template p s)) refl
  where
    by_outer : is_own d (owner d.template p) ≡ true → (b : Bool) → is_outer (nested_of d.template p s) ≡ b
        → is_own d (if b then owner d.template p else s ∷ p) ≡ true
    by_outer around true e = around
    by_outer around false e = ap not e

own_has : (d : Deployment) (q : Position) (t : TemplateTree) (c : Cell) → is_own d q ≡ true
    → template_at d.template q ≡ Some t → Has c (own_cells true q t) → Has c (entry_cells d q)
own_has d q t c own e h =
    subst (λ (o : Option TemplateTree). Has c (of_template (own_cells (is_own d q) q) o)) (sym e)
    (subst (λ (b : Bool). Has c (own_cells b q t)) (sym own) h)

module _ (d : Deployment) (p : Position) where
  abbrev See : Cell → Type 0
  See = MaySee d p

  value_asks : (c : Cell) → MaySee d p c → Asks See (value_of c)
  value_asks c h = (h, λ v. tt)

  declared_asks : (b : Bool) (c : Cell) → (b ≡ true → MaySee d p c) → Asks See (declared_value b c)
  declared_asks true c h = value_asks c (h refl)
  declared_asks false c h = tt

  parameter_seen : (x : List ℕ)
      → declares (parameter_named x) (template_at d.template (owner d.template p)) ≡ true
      → MaySee d p (parameter (owner d.template p) x)
  parameter_seen x e =
      let f = declared (parameter_named x) (template_at d.template (owner d.template p)) e in
      own_has d (owner d.template p) f.template (parameter (owner d.template p) x) (owner_is_own d p) f.is_there
      (has_left (parameter (owner d.template p) x)
      (map (parameter (owner d.template p)) (parameter_names f.template))
      (map (variable (owner d.template p)) (variable_names f.template))
      (has_map (parameter (owner d.template p)) x (parameter_names f.template)
      (named_parameter f.template x f.part f.is_part)))

  variable_seen : (x : List ℕ)
      → declares (variable_named x) (template_at d.template (owner d.template p)) ≡ true
      → MaySee d p (variable (owner d.template p) x)
  variable_seen x e =
      let f = declared (variable_named x) (template_at d.template (owner d.template p)) e in
      own_has d (owner d.template p) f.template (variable (owner d.template p) x) (owner_is_own d p) f.is_there
      (has_right (variable (owner d.template p) x)
      (map (parameter (owner d.template p)) (parameter_names f.template))
      (map (variable (owner d.template p)) (variable_names f.template))
      (has_map (variable (owner d.template p)) x (variable_names f.template)
      (named_variable f.template x f.part f.is_part)))

  -- ---- nested deployments

  seek_asks : (test : List ℕ → Bool) (qs : List Position) → Asks See (seek d.template test qs)
  seek_asks test [] = tt
  seek_asks test (q ∷ qs) =
      continued_asks See (read (deployments q))
      (λ j. found_or q (nested_numbers_at d.template q) (sought test j) (seek d.template test qs)) (tt, λ v. tt)
      (λ j. or_asks q (nested_numbers_at d.template q) (sought test j) (seek_asks test qs))
    where
      or_asks : (q : Position) (rs : List ℕ) (s : Sought) → Asks See (seek d.template test qs)
          → Asks See (found_or q rs s (seek d.template test qs))
      or_asks q rs (found k i) h = tt
      or_asks q rs left_away h = tt
      or_asks q rs not_here h = h

  output_declared : (q : Position) (x : List ℕ) → declares (output_named x) (template_at d.template q) ≡ true
      → IsDeclaredAt d q x
  output_declared q x e =
      let f = declared (output_named x) (template_at d.template q) e in
      record {
        template = f.template;
        is_there = f.is_there;
        declares = named_output f.template x f.part f.is_part;
      }

  output_asks : (x : List ℕ) (f : Found) → Asks See (output_at d.template x f)
  output_asks x is_left_away = tt
  output_asks x is_nowhere = tt
  output_asks x (instance q s) = by_declared (declares (output_named x) (template_at d.template (s ∷ q))) refl
    where
      by_declared : (b : Bool) → declares (output_named x) (template_at d.template (s ∷ q)) ≡ b
          → Asks See
          (if b then ask (offered (s ∷ q) x) (λ v. where_offered v (output (s ∷ q) x)) else pure None)
      by_declared false e = tt
      by_declared true e = (
        output_declared (s ∷ q) x e,
        λ v. declared_asks (is_true v) (output (s ∷ q) x) (λ f. output_declared (s ∷ q) x e),
      )

  offered_asks : (q : Position) (os : List Output)
      → ((o : Output) → Has o os → IsDeclaredAt d q (fold o.name)) → Asks See (offered_outputs q os)
  offered_asks q [] h = tt
  offered_asks q (o ∷ os) h = (
    h o (inl refl),
    λ v. continued_asks See (offered_outputs q os) (λ xs. pure (kept_output v o xs))
        (offered_asks q os (λ u i. h u (inr i))) (λ xs. tt),
  )

  outputs_declared : (q : Position) (t : Option TemplateTree) → template_at d.template q ≡ t → (o : Output)
      → Has o (outputs_in t) → IsDeclaredAt d q (fold o.name)
  outputs_declared q None e o h = absurd h
  outputs_declared q (Some t) e o h =
      record {
        template = t;
        is_there = e;
        declares = has_map (λ (u : Output). fold u.name) o (header_in t).outputs h;
      }

  outputs_asks : (f : Found) → Asks See (outputs_at d.template f)
  outputs_asks is_left_away = tt
  outputs_asks is_nowhere = tt
  outputs_asks (instance q s) =
      continued_asks See (offered_outputs (s ∷ q) (outputs_in (template_at d.template (s ∷ q))))
      (λ xs. pure (Some (look.a_list xs)))
      (offered_asks (s ∷ q) (outputs_in (template_at d.template (s ∷ q)))
      (outputs_declared (s ∷ q) (template_at d.template (s ∷ q)) refl)) (λ xs. tt)

  -- ---- names

  instances_asks : (place : Place) (q : Position) (r : ℕ) (kind : List ℕ) (i n : ℕ)
      → Asks See (instances_spelled place q r kind i n)
  instances_asks place q r kind i zero = tt
  instances_asks place q r kind i (suc n) =
      continued_asks See (read (name q (step r i)))
      (λ j. continued (done (spelled_by place kind j)) (λ x.
      continued (instances_spelled place q r kind (suc i) n) (λ xs. pure (x ∷ xs)))) (tt, λ v. tt)
      (λ j. continued_asks See (done (spelled_by place kind j))
      (λ x. continued (instances_spelled place q r kind (suc i) n) (λ xs. pure (x ∷ xs))) tt
      (λ x. continued_asks See (instances_spelled place q r kind (suc i) n) (λ xs. pure (x ∷ xs))
      (instances_asks place q r kind (suc i) n) (λ xs. tt)))

  resource_asks : (place : Place) (q : Position) (r : ℕ) (x : Listed) → Asks See (resource_spelled place q r x)
  resource_asks place q r x = by_existing x.declaration.existing
    where
      by_existing : (b : Bool)
          → Asks See (if b then pure []
          else continued (read (count q r)) (λ v. instances_spelled place q r x.type 0 (copies (Some v))))
      by_existing true = tt
      by_existing false =
          continued_asks See (read (count q r)) (λ v. instances_spelled place q r x.type 0 (copies (Some v)))
          (tt, λ v. tt) (λ v. instances_asks place q r x.type 0 (copies (Some v)))

  spelled_asks : (place : Place) (q : Position) (r : ℕ) (xs : List Listed) → Asks See (all_spelled place q r xs)
  spelled_asks place q r [] = tt
  spelled_asks place q r (x ∷ xs) =
      continued_asks See (resource_spelled place q r x)
      (λ ys. continued (all_spelled place q (suc r) xs) (λ zs. pure (ys ++ zs))) (resource_asks place q r x)
      (λ ys. continued_asks See (all_spelled place q (suc r) xs) (λ zs. pure (ys ++ zs))
      (spelled_asks place q (suc r) xs) (λ zs. tt))

  seek_name_asks : (test : List ℕ → Bool) (qs : List Position) → Asks See (seek_name test qs)
  seek_name_asks test [] = tt
  seek_name_asks test (q ∷ qs) =
      continued_asks See (read (deployments q))
      (λ j. named_or (first_name test (concat (listing_of j))) (seek_name test qs)) (tt, λ v. tt)
      (λ j. or_asks (first_name test (concat (listing_of j))) (seek_name_asks test qs))
    where
      or_asks : (o : Option (List ℕ)) → Asks See (seek_name test qs) → Asks See (named_or o (seek_name test qs))
      or_asks None h = h
      or_asks (Some n) h = tt

  key_asks : (place : Place) (x : List ℕ) (around : List Position) (ss : List Spelled) (o : Option ResourceId)
      → Asks See (key_by place x around ss o)
  key_asks place x around ss (Some k) = tt
  key_asks place x around ss None =
      continued_asks See (seek_name (λ n. names_key x (deployment_key place n)) around) _
      (seek_name_asks (λ n. names_key x (deployment_key place n)) around) (λ o. tt)

  named_asks : (texts : Texts) (place : Place) (q : Position) (x : List ℕ)
      → Asks See (named_by_texts texts d.template place q x)
  named_asks ids_alone place q x = tt
  named_asks symbols place q x = tt
  named_asks names place q x =
      continued_asks See (all_spelled place q 0 (listed_at_scope (template_at d.template q)))
      (λ ss. key_by place x (all_but_first (visible d.template q)) ss (first_named x ss))
      (spelled_asks place q 0 (listed_at_scope (template_at d.template q)))
      (λ ss. key_asks place x (all_but_first (visible d.template q)) ss (first_named x ss))

-- ---- what reads at a site

module _ (d : Deployment) (e : Site) where
  abbrev SeeAt : Cell → Type 0
  SeeAt = MaySee d e.at

  looked_asks : (place : Place) (c : Look) → Asks SeeAt (looked_up d.template place e c)
  looked_asks place (look.parameter x) =
      declared_asks d e.at
      (declares (parameter_named x) (template_at d.template (owner d.template e.at)))
      (parameter (owner d.template e.at) x) (parameter_seen d e.at x)
  looked_asks place (look.variable x) =
      declared_asks d e.at
      (declares (variable_named x) (template_at d.template (owner d.template e.at)))
      (variable (owner d.template e.at) x) (variable_seen d e.at x)
  looked_asks place (look.output k x) =
      continued_asks SeeAt (seek d.template (λ n. same_id k (deployment_key place n)) (visible d.template e.at))
      (output_at d.template x)
      (seek_asks d e.at (λ n. same_id k (deployment_key place n)) (visible d.template e.at)) (output_asks d e.at x)
  looked_asks place (look.state k) = value_asks d e.at (state k) tt
  looked_asks place (look.named x) = named_asks d e.at e.texts place e.at x
  looked_asks place (look.deployment k) =
      continued_asks SeeAt (seek d.template (λ n. same_id k (deployment_key place n)) (visible d.template e.at))
      (λ f. pure (truth_of_found f))
      (seek_asks d e.at (λ n. same_id k (deployment_key place n)) (visible d.template e.at)) (λ f. tt)
  looked_asks place (look.outputs k) =
      continued_asks SeeAt (seek d.template (λ n. same_id k (deployment_key place n)) (visible d.template e.at))
      (outputs_at d.template)
      (seek_asks d e.at (λ n. same_id k (deployment_key place n)) (visible d.template e.at)) (outputs_asks d e.at)

  place_asks : (place : Place) (q : Position) → Asks SeeAt (own_place place q)
  place_asks place [] = tt
  place_asks place (s ∷ q) =
      continued_asks SeeAt (read (name q s)) (λ n. done (with_deployment place n)) (tt, λ v. tt) (λ n. tt)

  pub site_asks : {A : Type 0} (f : Surroundings → Looking A) → Asks SeeAt (reading_at d.template d.place e f)
  unfolding reading_at
  site_asks f =
      continued_asks SeeAt (own_place d.place (owner d.template e.at)) (reading_in d.template e f)
      (place_asks d.place (owner d.template e.at))
      (λ place. followed_asks SeeAt (looked_up d.template place e)
      (by_texts e.texts d.template place e.at (f (record { loops = e.loops; place = place }))) (looked_asks place))
