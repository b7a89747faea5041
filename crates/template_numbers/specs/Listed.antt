-- Which declarations of a file are those of resources of its template.
use Rattle.std.specs.Prelude.{◌++◌, ℕ, Bool, true, false, List, [], ◌∷◌, length, Option, Some, slice_get}
use Rattle.template_parts.specs.declared.mode.Form.{Form}
use Rattle.template_parts.specs.declared.mode.Form.TheVariants.{One, Two}
use Rattle.bicep_declared.specs.Declarations.{DeclaredTree}
use Rattle.bicep_declared.specs.Declarations as d
use Rattle.source_worlds.specs.Numbers.{passing}

-- the second form has existing resources
abbrev pub has_existing : Form → Bool
has_existing One = false
has_existing Two = true

-- whether a declaration is that of a resource of the template, or of a module
abbrev pub is_listed_by : Form → Option DeclaredTree → Bool
is_listed_by z (Some (d.a_resource at q true b)) = has_existing z
is_listed_by z (Some (d.a_resource at q false b)) = true
is_listed_by z (Some (d.a_module at b)) = true
is_listed_by z o = false

abbrev pub is_listed : Form → List DeclaredTree → ℕ → Bool
is_listed z ds n = is_listed_by z (slice_get ds n)

-- the numbers, and one more where it is one
abbrev pub with_number : Bool → List ℕ → ℕ → List ℕ
with_number true ns n = ns ++ n ∷ []
with_number false ns n = ns

-- the numbers of these declarations, in the order of the source
abbrev pub listed : Form → List DeclaredTree → List ℕ
listed z ds = passing (is_listed z ds) 0 (length ds)
