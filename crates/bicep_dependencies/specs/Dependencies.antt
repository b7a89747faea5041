-- The resources and modules that the declarations of a file mention, directly or through variables.
use Rattle.std.specs.Prelude.{◌≡◌, ℕ, ◌==◌, ◌&&◌, Bool, true, false, List, [], Option, Some, None, slice_get}
use Rattle.std.specs.Prelude.{slice_index_or}
use Rattle.std.specs.List.{list_any}
use Rattle.bicep_declared.specs.Kind.{Kind}
use Rattle.bicep_declared.specs.Declarations.{DeclaredTree}
use Rattle.bicep_declared.specs.Declarations as d
use Rattle.bicep_mentions.specs.Through.{mentioning}

-- whether a symbol is a resource or a module; an existing resource is one too
abbrev pub is_target : Option DeclaredTree → Bool
is_target None = false
is_target (Some (d.parameter at t)) = false
is_target (Some (d.parameter_with at t e)) = false
is_target (Some (d.variable at v)) = false
is_target (Some (d.a_resource at q existing b)) = true
is_target (Some (d.a_module at b)) = true

-- whether the first symbol mentions the second, which is a resource or a module
abbrev pub depends_on : List Kind → List DeclaredTree → ℕ → ℕ → Bool
depends_on xs ds k n = is_target (slice_get ds n) && mentioning xs ds k n

-- whether a number is one of these
abbrev pub has : List ℕ → ℕ → Bool
has numbers n = list_any (λ k. k == n) numbers

-- each symbol has a list of the resources and modules that it mentions; a number that is no symbol's has none
abbrev pub AreDependencies : List Kind → List DeclaredTree → List (List ℕ) → Type 0
AreDependencies xs ds lists = (k n : ℕ) → has (slice_index_or lists k []) n ≡ depends_on xs ds k n
