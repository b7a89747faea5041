-- What mentions lead to is what the declaration mentions, where that is known of the variables that it mentions.
use Rattle.std.proofs.Common.{◌≡◌, ◌==◌, ◌&&◌, ◌||◌, ℕ, zero, suc, Bool, true, false, true≢false, List, [], ◌∷◌}
use Rattle.std.proofs.Common.{Option, Some, None, refl, sym, ap, ap₂, ◌∙◌, arith}
use Rattle.std.specs.Prelude.{Contains, slice_get, slice_index_or}
use Rattle.std.specs.List.{list_any}
use Rattle.foundation.proofs.Comparisons.{eq_of_true}
use Rattle.bicep_declared.specs.Declarations.{DeclaredTree}
use Rattle.bicep_declared.specs.Declarations as d
use Rattle.bicep_mentions.specs.Entries.{is_variable}
use Rattle.bicep_mentions.specs.Through.{Mentioning, leads_to}
use Rattle.bicep_dependencies.specs.Dependencies.{is_target, has}
use Rattle.bicep_dependencies.specs.Steps.{leads_by, any_leads}
use Rattle.foundation.proofs.TruthValues.{and_false_is, and_shared}

none_by : (t b : Bool) → (b ≡ true → t ≡ false) → false ≡ (t && (b || false))
none_by true true h = absurd (true≢false (h refl))
none_by true false h = refl
none_by false b h = refl

variable_by : (t b x : Bool) → (b ≡ true → t ≡ false) → (t && x) ≡ (t && (b || x))
variable_by true true x h = absurd (true≢false (h refl))
variable_by true false x h = refl
variable_by false b x h = refl

target_by : (t b : Bool) → (b ≡ true → t ≡ true) → b ≡ (t && (b || false))
target_by true true h = refl
target_by true false h = refl
target_by false true h = sym (h refl)
target_by false false h = refl

module _ (ds : List DeclaredTree) (mentioned : Mentioning) (n : ℕ) where
  target_of : (m : ℕ) (o : Option DeclaredTree) → slice_get ds m ≡ o → (m == n) ≡ true
      → is_target (slice_get ds n) ≡ is_target o
  target_of m o e q = ap (λ k. is_target (slice_get ds k)) (sym (eq_of_true m n q)) ∙ ap is_target e

  leads_as : (m : ℕ) (o : Option DeclaredTree) (list : List ℕ) → slice_get ds m ≡ o
      → has list n ≡ (is_target (slice_get ds n) && mentioned m n)
      → leads_by o list m n ≡ (is_target (slice_get ds n) && ((m == n) || (is_variable o && mentioned m n)))
  leads_as m None list e h = none_by (is_target (slice_get ds n)) (m == n) (target_of m None e)
  leads_as m (Some (d.parameter at t)) list e h =
      none_by (is_target (slice_get ds n)) (m == n) (target_of m (Some (d.parameter at t)) e)
  leads_as m (Some (d.parameter_with at t x)) list e h =
      none_by (is_target (slice_get ds n)) (m == n) (target_of m (Some (d.parameter_with at t x)) e)
  leads_as m (Some (d.variable at v)) list e h =
      h
      ∙ variable_by (is_target (slice_get ds n)) (m == n) (mentioned m n) (target_of m (Some (d.variable at v)) e)
  leads_as m (Some (d.a_resource at q existing b)) list e h =
      target_by (is_target (slice_get ds n)) (m == n) (target_of m (Some (d.a_resource at q existing b)) e)
  leads_as m (Some (d.a_module at b)) list e h =
      target_by (is_target (slice_get ds n)) (m == n) (target_of m (Some (d.a_module at b)) e)

  pub any_leads_as : (lists : List (List ℕ)) (ms : List ℕ)
      → ((m : ℕ) → Contains ms m
      → has (slice_index_or lists m []) n ≡ (is_target (slice_get ds n) && mentioned m n))
      → any_leads ds lists n ms ≡ (is_target (slice_get ds n) && list_any (leads_to ds mentioned n) ms)
  any_leads_as lists [] h = sym (and_false_is (is_target (slice_get ds n)))
  any_leads_as lists (m ∷ ms) h =
      ap₂ (λ a b. a || b)
      (leads_as m (slice_get ds m) (slice_index_or lists m []) refl (h m (zero, omega arith, refl)))
      (any_leads_as lists ms (λ x c. let within = c.1 in h x (suc c.0, omega (arith, within), c.2)))
      ∙ and_shared (is_target (slice_get ds n)) (leads_to ds mentioned n m) (list_any (leads_to ds mentioned n) ms)
