-- What one mention adds to the resources and modules that a declaration mentions.
use Rattle.std.specs.Prelude.{◌≡◌, ℕ, ◌==◌, Bool, false, List, [], Option, Some, None, slice_get, slice_index_or}
use Rattle.std.specs.Prelude.{slice_set}
use Rattle.std.specs.List.{list_any}
use Rattle.bicep_declared.specs.Declarations.{DeclaredTree}
use Rattle.bicep_declared.specs.Declarations as d
use Rattle.bicep_dependencies.specs.Dependencies.{has}

-- whether a mention of the symbol m, which has this declaration and this list, leads to the resource or module n
abbrev pub leads_by : Option DeclaredTree → List ℕ → ℕ → ℕ → Bool
leads_by None list m n = false
leads_by (Some (d.parameter at t)) list m n = false
leads_by (Some (d.parameter_with at t e)) list m n = false
leads_by (Some (d.variable at v)) list m n = has list n
leads_by (Some (d.a_resource at q existing b)) list m n = m == n
leads_by (Some (d.a_module at b)) list m n = m == n

-- where each symbol has a list: whether a mention of m leads to n
abbrev pub leads : List DeclaredTree → List (List ℕ) → ℕ → ℕ → Bool
leads ds lists n m = leads_by (slice_get ds m) (slice_index_or lists m []) m n

-- whether one of several mentions does
abbrev pub any_leads : List DeclaredTree → List (List ℕ) → ℕ → List ℕ → Bool
any_leads ds lists n ms = list_any (leads ds lists n) ms

-- of the lists, that of the symbol with these mentions has become what they lead to
pub record IsNext (ds : List DeclaredTree) (mentions : List ℕ) (place : ℕ) (old new : List (List ℕ)) : Type 0 where
  pub list : List ℕ
  pub becomes : new ≡ slice_set old place list
  pub leads : (n : ℕ) → has list n ≡ any_leads ds old n mentions
