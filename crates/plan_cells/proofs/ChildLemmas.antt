-- The cells that a value opens have that cell as their parent, are there by the value, and differ.
use Rattle.std.proofs.Common.{◌≡◌, inl, inr, ℕ, ◌+◌, ◌<◌, Bool, true, false, List, [], ◌∷◌, ◌++◌}
use Rattle.std.proofs.Common.{map, Option, Some, None, refl, ap, subst, ◌∙◌, arith}
use Rattle.std.specs.Prelude.{if◌then◌else◌}
use Rattle.template_parameters.specs.Json.{Json}
use Rattle.foundation.proofs.Comparisons.{lt_true}
use Rattle.template_parameters.specs.Tree.{TemplateTree}
use Rattle.deploy_cells.specs.Cells.{Step, Position, Cell, parameter, variable, offered, output, count, included, name, deployments, state, opener, parent, copies, admits}
use Rattle.plan_cells.specs.Scopes.{template_at}
use Rattle.plan_cells.specs.Meaning.{Deployment, is_own}
use Rattle.plan_cells.specs.Desired.{is_state}
use Rattle.plan_cells.specs.Children.{Has, parameter_names, variable_names, output_names, numbers_in}
use Rattle.plan_cells.specs.Children.{own_cells, scope_cells, opened_cells, steps, instance_cells, roots, children}
use Rattle.plan_cells.proofs.ListLemmas.{has_joined, has_mapped}
use Rattle.plan_cells.proofs.ListLemmas.{of_steps}
use Rattle.template_parameters.specs.Kinds.{is_true}

-- a cell of a scope
pub record IsOfScope (p : Position) (c : Cell) : Type 0 where
  pub has_parent : parent c ≡ opener p
  pub admitted : (v : Option Json) → admits c v ≡ is_true v
  pub no_state : is_state c ≡ false

of_scope_as : (p : Position) (c d : Cell) → IsOfScope p d → d ≡ c → IsOfScope p c
of_scope_as p c d h e = subst (IsOfScope p) e h

of_map : {A : Type 0} (p : Position) (f : A → Cell) → ((x : A) → IsOfScope p (f x)) → (c : Cell) (xs : List A)
    → Has c (map f xs) → IsOfScope p c
of_map p f g c xs h = let r = has_mapped f c xs h in of_scope_as p c (f r.0) (g r.0) r.1.1

of_own : (b : Bool) (p : Position) (t : TemplateTree) (c : Cell) → Has c (own_cells b p t) → IsOfScope p c
of_own false p t c h = absurd h
of_own true p t c h =
    elim (has_joined c (map (parameter p) (parameter_names t)) (map (variable p) (variable_names t)) h) [
      | inl a ↦ of_map p (parameter p) (λ x. record { has_parent = refl; admitted = λ v. refl; no_state = refl }) c
          (parameter_names t) a
      | inr b ↦ of_map p (variable p) (λ x. record { has_parent = refl; admitted = λ v. refl; no_state = refl }) c
          (variable_names t) b
    ]

of_deployments : (p : Position) (c : Cell) → Has c (deployments p ∷ []) → IsOfScope p c
of_deployments p c (inl e) =
    of_scope_as p c (deployments p) (record { has_parent = refl; admitted = λ v. refl; no_state = refl }) e
of_deployments p c (inr h) = absurd h

of_counts : (p : Position) (t : TemplateTree) (c : Cell) → Has c (map (count p) (numbers_in t) ++ deployments p ∷ [])
    → IsOfScope p c
of_counts p t c h =
    elim (has_joined c (map (count p) (numbers_in t)) (deployments p ∷ []) h) [
      | inl a ↦ of_map p (count p) (λ x. record { has_parent = refl; admitted = λ v. refl; no_state = refl }) c
          (numbers_in t) a
      | inr b ↦ of_deployments p c b
    ]

of_outputs : (p : Position) (t : TemplateTree) (c : Cell)
    → Has c (map (offered p) (output_names t) ++ (map (count p) (numbers_in t) ++ deployments p ∷ []))
    → IsOfScope p c
of_outputs p t c h =
    elim (has_joined c (map (offered p) (output_names t)) (map (count p) (numbers_in t) ++ deployments p ∷ []) h) [
      | inl a ↦ of_map p (offered p) (λ x. record { has_parent = refl; admitted = λ v. refl; no_state = refl }) c
          (output_names t) a
      | inr b ↦ of_counts p t c b
    ]

of_scope_cells : (d : Deployment) (p : Position) (t : TemplateTree) (c : Cell) → Has c (scope_cells d p t)
    → IsOfScope p c
of_scope_cells d p t c h =
    elim (has_joined c (own_cells (is_own d p) p t)
    (map (offered p) (output_names t) ++ (map (count p) (numbers_in t) ++ deployments p ∷ [])) h) [
      | inl a ↦ of_own (is_own d p) p t c a
      | inr b ↦ of_outputs p t c b
    ]

pub root_is : (d : Deployment) (c : Cell) → Has c (roots d) → (parent c ≡ None) × (is_state c ≡ false)
unfolding roots
root_is d c h = let s = of_scope_cells d [] d.template c h in (s.has_parent, s.no_state)

-- what a parent and its value have to do with a child
pub record IsChild (c : Cell) (v : Json) (e : Cell) : Type 0 where
  pub has_parent : parent e ≡ Some c
  pub admitted : admits e (Some v) ≡ true
  pub no_state : is_state e ≡ false

opened_is : (d : Deployment) (p : Position) (s : Step) (v : Json) (o : Option TemplateTree) → is_true (Some v) ≡ true
    → (e : Cell) → Has e (opened_cells d (s ∷ p) o) → IsChild (included p s) v e
opened_is d p s v None t e h = absurd h
opened_is d p s v (Some u) t e h =
    let i = of_scope_cells d (s ∷ p) u e h in
    record { has_parent = i.has_parent; admitted = i.admitted (Some v) ∙ t; no_state = i.no_state }

where_true : (d : Deployment) (p : Position) (s : Step) (v : Json) (b : Bool) → is_true (Some v) ≡ b → (e : Cell)
    → Has e (if b then opened_cells d (s ∷ p) (template_at d.template (s ∷ p)) else [])
    → IsChild (included p s) v e
where_true d p s v true t e h = opened_is d p s v (template_at d.template (s ∷ p)) t e h
where_true d p s v false t e h = absurd h

output_is : (p : Position) (x : List ℕ) (v : Json) (b : Bool) → is_true (Some v) ≡ b → (e : Cell)
    → Has e (if b then output p x ∷ [] else []) → IsChild (offered p x) v e
output_is p x v true t e (inl i) =
    subst (IsChild (offered p x) v) i (record { has_parent = refl; admitted = t; no_state = refl })
output_is p x v true t e (inr h) = absurd h
output_is p x v false t e h = absurd h

included_child : (p : Position) (r : ℕ) (v : Json) (s : Step) → s.resource ≡ r → s.copy < copies (Some v)
    → IsChild (count p r) v (included p s)
included_child p r v s e l = record {
  has_parent = ap (λ i. Some (count p i)) e;
  admitted = lt_true s.copy (copies (Some v)) l;
  no_state = refl;
}

name_child : (p : Position) (r : ℕ) (v : Json) (s : Step) → s.resource ≡ r → s.copy < copies (Some v)
    → IsChild (count p r) v (name p s)
name_child p r v s e l = record {
  has_parent = ap (λ i. Some (count p i)) e;
  admitted = lt_true s.copy (copies (Some v)) l;
  no_state = refl;
}

instance_is : (p : Position) (r : ℕ) (v : Json) (e : Cell) → Has e (instance_cells p r (copies (Some v)))
    → IsChild (count p r) v e
instance_is p r v e h =
    elim (has_joined e (map (included p) (steps r 0 (copies (Some v))))
    (map (name p) (steps r 0 (copies (Some v)))) h) [
      | inl a ↦ (let x = has_mapped (included p) e (steps r 0 (copies (Some v))) a in
          let f = of_steps x.0 r 0 (copies (Some v)) x.1.0 in
          let l : x.0.copy < 0 + copies (Some v) = f.1.1 in
          subst (IsChild (count p r) v) x.1.1 (included_child p r v x.0 f.0 (omega (arith, l))))
      | inr b ↦ (let x = has_mapped (name p) e (steps r 0 (copies (Some v))) b in
          let f = of_steps x.0 r 0 (copies (Some v)) x.1.0 in
          let l : x.0.copy < 0 + copies (Some v) = f.1.1 in
          subst (IsChild (count p r) v) x.1.1 (name_child p r v x.0 f.0 (omega (arith, l))))
    ]

pub child_is : (d : Deployment) (c : Cell) (v : Json) (e : Cell) → Has e (children d c v) → IsChild c v e
unfolding children
child_is d (count p r) v e h = instance_is p r v e h
child_is d (included p s) v e h = where_true d p s v (is_true (Some v)) refl e h
child_is d (offered p x) v e h = output_is p x v (is_true (Some v)) refl e h
child_is d (parameter p x) v e h = absurd h
child_is d (variable p x) v e h = absurd h
child_is d (output p x) v e h = absurd h
child_is d (name p s) v e h = absurd h
child_is d (deployments p) v e h = absurd h
child_is d (state k) v e h = absurd h
