-- The cells of the root, and those that a value opens, are each listed once.
use Rattle.std.proofs.Common.{◌≡◌, inl, inr, ℕ, zero, suc, ◌+◌, ◌<◌, ◌≤◌, Bool, true, false, List, [], ◌∷◌, map}
use Rattle.std.proofs.Common.{◌++◌}
use Rattle.std.proofs.Common.{Option, Some, None, refl, sym, ap, subst, ◌∙◌, arith}
use Rattle.std.specs.Prelude.{slice_get, option_map, option_and_then, if◌then◌else◌}
use Rattle.std.proofs.lemmas.Option.{same_Some}
use Rattle.template_parameters.specs.Json.{Json}
use Rattle.template_parameters.specs.Tree.{TemplateTree, template, ResourceTree, resource, BodyTree, body_members, deployment, Trees, no_resources, a_resource}
use Rattle.deploy_cells.specs.Cells.{Step, Position, Cell, parameter, variable, offered, output, count, included, name, deployments, state, copies}
use Rattle.plan_cells.specs.Resources.{Above, Listed, Nested, header_in, tree_count, above_by, listed_tree}
use Rattle.plan_cells.specs.Resources.{listed_trees, resources_in, unless_existing, resource_at, nested_in, nested_at}
use Rattle.plan_cells.specs.Scopes.{template_at}
use Rattle.plan_cells.specs.Meaning.{Deployment, is_own}
use Rattle.plan_cells.specs.Children.{Has, AreApart, parameter_names, variable_names, output_names, HasOwnNames}
use Rattle.plan_cells.specs.Children.{NamesDiffer, TreesNamesDiffer, TreeNamesDiffer, BodyNamesDiffer, numbers_in}
use Rattle.plan_cells.specs.Children.{own_cells, scope_cells, opened_cells, steps, instance_cells, roots, children}
use Rattle.plan_cells.proofs.ListLemmas.{has_joined, has_mapped, apart_joined, apart_map, numbers_apart, steps_apart}
use Rattle.template_parameters.specs.Kinds.{is_true}

-- which sort of cell it is
abbrev tag : Cell → ℕ
tag (parameter p x) = 0
tag (variable p x) = 1
tag (offered p x) = 2
tag (count p r) = 3
tag (deployments p) = 4
tag (included p s) = 5
tag (name p s) = 6
tag (output p x) = 7
tag (state k) = 8

abbrev name_of : Cell → List ℕ
name_of (parameter p x) = x
name_of (variable p x) = x
name_of (offered p x) = x
name_of _ = []

abbrev number_of : Cell → ℕ
number_of (count p r) = r
number_of _ = 0

abbrev step_of : Step → Cell → Step
step_of s (included p t) = t
step_of s (name p t) = t
step_of s _ = s

tag_of_map : {A : Type 0} (f : A → Cell) (k : ℕ) → ((x : A) → tag (f x) ≡ k) → (c : Cell) (xs : List A)
    → Has c (map f xs) → tag c ≡ k
tag_of_map f k g c xs h = let r = has_mapped f c xs h in ap tag (sym r.1.1) ∙ g r.0

tag_of_own : (b : Bool) (p : Position) (t : TemplateTree) (c : Cell) → Has c (own_cells b p t) → tag c < 2
tag_of_own false p t c h = absurd h
tag_of_own true p t c h =
    elim (has_joined c (map (parameter p) (parameter_names t)) (map (variable p) (variable_names t)) h) [
      | inl a ↦ (let e : tag c ≡ 0 = tag_of_map (parameter p) 0 (λ x. refl) c (parameter_names t) a in omega
          (arith, e))
      | inr b ↦ (let e : tag c ≡ 1 = tag_of_map (variable p) 1 (λ x. refl) c (variable_names t) b in omega (arith, e))
    ]

tag_of_last : (p : Position) (c : Cell) → Has c (deployments p ∷ []) → tag c ≡ 4
tag_of_last p c (inl e) = ap tag (sym e)
tag_of_last p c (inr h) = absurd h

tag_of_counts : (p : Position) (t : TemplateTree) (c : Cell)
    → Has c (map (count p) (numbers_in t) ++ deployments p ∷ []) → 3 ≤ tag c
tag_of_counts p t c h =
    elim (has_joined c (map (count p) (numbers_in t)) (deployments p ∷ []) h) [
      | inl a ↦ (let e : tag c ≡ 3 = tag_of_map (count p) 3 (λ x. refl) c (numbers_in t) a in omega (arith, e))
      | inr b ↦ (let e : tag c ≡ 4 = tag_of_last p c b in omega (arith, e))
    ]

tag_of_rest : (p : Position) (t : TemplateTree) (c : Cell)
    → Has c (map (offered p) (output_names t) ++ (map (count p) (numbers_in t) ++ deployments p ∷ [])) → 2 ≤ tag c
tag_of_rest p t c h =
    elim (has_joined c (map (offered p) (output_names t)) (map (count p) (numbers_in t) ++ deployments p ∷ []) h) [
      | inl a ↦ (let e : tag c ≡ 2 = tag_of_map (offered p) 2 (λ x. refl) c (output_names t) a in omega (arith, e))
      | inr b ↦ (let e : 3 ≤ tag c = tag_of_counts p t c b in omega (arith, e))
    ]

own_apart : (b : Bool) (p : Position) (t : TemplateTree) → HasOwnNames (header_in t) → AreApart (own_cells b p t)
own_apart false p t n = tt
own_apart true p t n =
    apart_joined (map (parameter p) (parameter_names t)) (map (variable p) (variable_names t))
    (apart_map (parameter p) (λ x y e. ap name_of e) (parameter_names t) n.parameters)
    (apart_map (variable p) (λ x y e. ap name_of e) (variable_names t) n.variables)
    (λ c a b. let e : tag c ≡ 0 = tag_of_map (parameter p) 0 (λ x. refl) c (parameter_names t) a in
    let f : tag c ≡ 1 = tag_of_map (variable p) 1 (λ x. refl) c (variable_names t) b in
    absurd (omega (arith, e, f)))

counts_apart : (p : Position) (t : TemplateTree) → AreApart (map (count p) (numbers_in t) ++ deployments p ∷ [])
counts_apart p t =
    apart_joined (map (count p) (numbers_in t)) (deployments p ∷ [])
    (apart_map (count p) (λ x y e. ap number_of e) (numbers_in t) (numbers_apart 0 (resources_in t)))
    (λ h. h, tt)
    (λ c a b. let e : tag c ≡ 3 = tag_of_map (count p) 3 (λ x. refl) c (numbers_in t) a in
    let f : tag c ≡ 4 = tag_of_last p c b in absurd (omega (arith, e, f)))

rest_apart : (p : Position) (t : TemplateTree) → HasOwnNames (header_in t)
    → AreApart (map (offered p) (output_names t) ++ (map (count p) (numbers_in t) ++ deployments p ∷ []))
rest_apart p t n =
    apart_joined (map (offered p) (output_names t)) (map (count p) (numbers_in t) ++ deployments p ∷ [])
    (apart_map (offered p) (λ x y e. ap name_of e) (output_names t) n.outputs)
    (counts_apart p t)
    (λ c a b. let e : tag c ≡ 2 = tag_of_map (offered p) 2 (λ x. refl) c (output_names t) a in
    let f : 3 ≤ tag c = tag_of_counts p t c b in absurd (omega (arith, e, f)))

scope_apart : (d : Deployment) (p : Position) (t : TemplateTree) → HasOwnNames (header_in t)
    → AreApart (scope_cells d p t)
scope_apart d p t n =
    apart_joined (own_cells (is_own d p) p t)
    (map (offered p) (output_names t) ++ (map (count p) (numbers_in t) ++ deployments p ∷ []))
    (own_apart (is_own d p) p t n) (rest_apart p t n)
    (λ c a b. let e : tag c < 2 = tag_of_own (is_own d p) p t c a in
    let f : 2 ≤ tag c = tag_of_rest p t c b in absurd (omega (arith, e, f)))

own_names : (t : TemplateTree) → NamesDiffer t → HasOwnNames (header_in t)
own_names (template h rs) n = n.0

-- names differ in the templates of listed resources
abbrev EachNames : List Listed → Type 0
EachNames [] = Unit {0}
EachNames (x ∷ xs) = BodyNamesDiffer x.content × EachNames xs

each_joined : (xs ys : List Listed) → EachNames xs → EachNames ys → EachNames (xs ++ ys)
each_joined [] ys a b = b
each_joined (x ∷ xs) ys a b = (a.0, each_joined xs ys a.1 b)

mutual
  tree_names : (o : Option Above) (n : ℕ) (r : ResourceTree) → TreeNamesDiffer r → EachNames (listed_tree o n r)
  tree_names o n (resource d b rs) h = (h.0, trees_names (Some (above_by o n d)) (suc n) rs h.1)

  trees_names : (o : Option Above) (n : ℕ) (rs : Trees) → TreesNamesDiffer rs → EachNames (listed_trees o n rs)
  trees_names o n no_resources h = tt
  trees_names o n (a_resource r rs) h =
      each_joined (listed_tree o n r) (listed_trees o (n + tree_count r) rs) (tree_names o n r h.0)
      (trees_names o (n + tree_count r) rs h.1)

all_names : (t : TemplateTree) → NamesDiffer t → EachNames (resources_in t)
all_names (template h rs) n = trees_names None 0 rs n.1

names_of_listed : (xs : List Listed) (i : ℕ) (x : Listed) → EachNames xs → slice_get xs i ≡ Some x
    → BodyNamesDiffer x.content
names_of_listed [] i x n e = let f : None ≡ Some x = e in absurd (cc)
names_of_listed (y ∷ xs) zero x n e = subst (λ (z : Listed). BodyNamesDiffer z.content) (same_Some y x e) n.0
names_of_listed (y ∷ xs) (suc i) x n e = names_of_listed xs i x n.1 e

template_is : (m n : Nested) → Some m ≡ Some n → m.template ≡ n.template
template_is m n e = let f : m ≡ n = cc in ap (λ (x : Nested). x.template) f

names_in_content : (b : BodyTree) (m : Nested) → BodyNamesDiffer b → nested_in b ≡ Some m → NamesDiffer m.template
names_in_content (body_members ms) m n e = let f : None ≡ Some m = e in absurd (cc)
names_in_content (deployment s ps t) m n e =
    subst NamesDiffer (template_is (record { scope = s; arguments = ps; template = t }) m e) n

names_unless : (x : Listed) (m : Nested) (b : Bool) → BodyNamesDiffer x.content
    → option_and_then (λ (r : Listed). nested_in r.content) (if b then None else Some x) ≡ Some m
    → NamesDiffer m.template
names_unless x m true n e = let f : None ≡ Some m = e in absurd (cc)
names_unless x m false n e = names_in_content x.content m n e

names_by_number : (xs : List Listed) (i : ℕ) (m : Nested) → EachNames xs → (o : Option Listed) → slice_get xs i ≡ o
    → option_and_then (λ (r : Listed). nested_in r.content) (option_and_then unless_existing o) ≡ Some m
    → NamesDiffer m.template
names_by_number xs i m n None h e = let f : None ≡ Some m = e in absurd (cc)
names_by_number xs i m n (Some x) h e = names_unless x m x.declaration.existing (names_of_listed xs i x n h) e

nested_names : (u : TemplateTree) (i : ℕ) (m : Nested) → NamesDiffer u → nested_at u i ≡ Some m
    → NamesDiffer m.template
unfolding resource_at
nested_names u i m n e =
    names_by_number (resources_in u) i m (all_names u n) (slice_get (resources_in u) i) refl e

names_inside : (v : TemplateTree) (i : ℕ) (u : TemplateTree) → NamesDiffer v → (o : Option Nested)
    → nested_at v i ≡ o → option_map (λ (n : Nested). n.template) o ≡ Some u → NamesDiffer u
names_inside v i u n None h e = let f : None ≡ Some u = e in absurd (cc)
names_inside v i u n (Some m) h e =
    let f : m.template ≡ u = cc in subst NamesDiffer f (nested_names v i m n h)

names_below : (i : ℕ) (u : TemplateTree) (o : Option TemplateTree) → ((v : TemplateTree) → o ≡ Some v → NamesDiffer v)
    → option_map (λ (n : Nested). n.template) (option_and_then (λ v. nested_at v i) o) ≡ Some u → NamesDiffer u
names_below i u None h e = let f : None ≡ Some u = e in absurd (cc)
names_below i u (Some v) h e = names_inside v i u (h v refl) (nested_at v i) refl e

pub names_at : (t : TemplateTree) → NamesDiffer t → (p : Position) (u : TemplateTree) → template_at t p ≡ Some u
    → NamesDiffer u
unfolding template_at
names_at t n [] u e = let f : t ≡ u = cc in subst NamesDiffer f n
names_at t n (s ∷ p) u e = names_below s.resource u (template_at t p) (names_at t n p) e

module _ (d : Deployment) (n : NamesDiffer d.template) where
  pub roots_apart : AreApart (roots d)
  unfolding roots
  roots_apart = scope_apart d [] d.template (own_names d.template n)

  opened_apart : (p : Position) (o : Option TemplateTree) → template_at d.template p ≡ o
      → AreApart (opened_cells d p o)
  opened_apart p None e = tt
  opened_apart p (Some u) e = scope_apart d p u (own_names u (names_at d.template n p u e))

  where_apart : (b : Bool) (xs : List Cell) → AreApart xs → AreApart (if b then xs else [])
  where_apart true xs a = a
  where_apart false xs a = tt

  instances_apart : (p : Position) (r k : ℕ) → AreApart (instance_cells p r k)
  instances_apart p r k =
      apart_joined (map (included p) (steps r 0 k)) (map (name p) (steps r 0 k))
      (apart_map (included p) (λ x y e. ap (step_of x) e) (steps r 0 k) (steps_apart r 0 k))
      (apart_map (name p) (λ x y e. ap (step_of x) e) (steps r 0 k) (steps_apart r 0 k))
      (λ c a b. let e : tag c ≡ 5 = tag_of_map (included p) 5 (λ x. refl) c (steps r 0 k) a in
      let f : tag c ≡ 6 = tag_of_map (name p) 6 (λ x. refl) c (steps r 0 k) b in absurd (omega (arith, e, f)))

  pub children_apart : (c : Cell) (v : Json) → AreApart (children d c v)
  unfolding children
  children_apart (count p r) v = instances_apart p r (copies (Some v))
  children_apart (included p s) v =
      where_apart (is_true (Some v)) (opened_cells d (s ∷ p) (template_at d.template (s ∷ p)))
      (opened_apart (s ∷ p) (template_at d.template (s ∷ p)) refl)
  children_apart (offered p x) v = where_apart (is_true (Some v)) (output p x ∷ []) (λ h. h, tt)
  children_apart (parameter p x) v = tt
  children_apart (variable p x) v = tt
  children_apart (output p x) v = tt
  children_apart (name p s) v = tt
  children_apart (deployments p) v = tt
  children_apart (state k) v = tt
