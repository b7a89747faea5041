-- The whole types of resources, and which type a child has.
use Rattle.std.specs.Prelude.{ℕ, ◌==◌, ◌+◌, ◌&&◌, Bool, true, false, List, [], ◌∷◌, ◌++◌, length, Option, Some, None}
use Rattle.std.specs.Prelude.{slice_get}
use Rattle.arm_value.specs.Look.{is_same_folded}
use Rattle.arm_ids.specs.Segments.{segments}
use Rattle.bicep_misplaced.specs.Types.{divided}
use Rattle.bicep_names.specs.declared.kind.Kind.{Kind}
use Rattle.bicep_names.specs.declared.kind.Kind.TheVariants as k
use Rattle.bicep_declared.specs.Declarations.{DeclaredTree}
use Rattle.bicep_declared.specs.Declarations as d

abbrev pub kind_by : List ℕ → Option (List ℕ × List ℕ) → List ℕ
kind_by text None = text
kind_by text (Some q) = q.0

-- the type in a type text: what is before the first `@` (64)
abbrev pub kind_in : List ℕ → List ℕ
kind_in text = kind_by text (divided 64 text)

-- the resource in which a symbol is nested
abbrev pub around : Kind → Option ℕ
around k.Parameter = None
around k.Variable = None
around (k.Resource inside) = inside
around (k.ResourceLoop inside) = inside
around (k.Module file) = None
around (k.ModuleLoop file) = None

abbrev pub path_of : DeclaredTree → Option (List ℕ)
path_of (d.parameter at t) = None
path_of (d.parameter_with at t e) = None
path_of (d.variable at v) = None
path_of (d.a_resource at q existing b) = Some q.text
path_of (d.a_module at b) = None

abbrev pub known : Option (List ℕ) → List ℕ
known None = []
known (Some kind) = kind

-- the whole type of a resource, where those before it have these; a nested one has that of its parent in front
abbrev pub whole_kind : List (List ℕ) → Option ℕ → Option (List ℕ) → List ℕ
whole_kind before o None = []
whole_kind before None (Some text) = kind_in text
whole_kind before (Some n) (Some text) = known (slice_get before n) ++ 47 ∷ kind_in text

abbrev pub whole_kinds_after : List (List ℕ) → List Kind → List DeclaredTree → List (List ℕ)
whole_kinds_after before [] ds = before
whole_kinds_after before (x ∷ xs) [] = before
whole_kinds_after before (x ∷ xs) (d ∷ ds) =
    whole_kinds_after (before ++ whole_kind before (around x) (path_of d) ∷ []) xs ds

-- the whole types of the resources of a file, by the numbers of their symbols
abbrev pub whole_kinds : List Kind → List DeclaredTree → List (List ℕ)
whole_kinds xs ds = whole_kinds_after [] xs ds

-- whether the second list begins with the texts of the first, after ASCII case folding
abbrev pub is_folded_front : List (List ℕ) → List (List ℕ) → Bool
is_folded_front [] ys = true
is_folded_front (x ∷ xs) [] = false
is_folded_front (x ∷ xs) (y ∷ ys) = is_same_folded x y && is_folded_front xs ys

abbrev pub is_longer : List (List ℕ) → List (List ℕ) → Bool
is_longer ps ks = (length ks == length ps + 1) && is_folded_front ps ks

-- the type of a child: that of its parent and one segment
unfoldable pub is_child : List ℕ → List ℕ → Bool
is_child parent kind = is_longer (segments parent) (segments kind)
