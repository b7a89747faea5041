-- The elements of `dependsOn` of a template.
use Rattle.std.specs.Prelude.{◌≡◌, ℕ, true, false, List, [], ◌∷◌, Option, Some, None, map, if◌then◌else◌}
use Rattle.std.specs.List.{filter}
use Rattle.arm_value.specs.Json.{Json}
use Rattle.template_parts.specs.declared.mode.Form.{Form}
use Rattle.bicep_declared.specs.Declarations.{DeclaredTree}
use Rattle.bicep_meaning.specs.Files.{SourceFile, declaration}
use Rattle.emitted_files.specs.Files.{dependency}
use Rattle.emitted_trees.specs.Written.{tree_json, IsWithin}
use Rattle.measured_trees.specs.Extremes.{Extremes, nothing, joined, enclosed, tree_extremes}
use Rattle.source_worlds.specs.Numbers.{is_put}

-- the element for the resource or the module of a number
abbrev pub element_json : List SourceFile → SourceFile → Form → ℕ → Json
element_json files f z n = tree_json (dependency files f z n)

-- one for each of these numbers
abbrev pub elements : List SourceFile → SourceFile → Form → List ℕ → List Json
elements files f z ns = map (element_json files f z) ns

-- each element is within the limits of templates
abbrev pub ElementsAreWithin : List SourceFile → SourceFile → Form → List ℕ → Type 0
ElementsAreWithin files f z [] = Unit {0}
ElementsAreWithin files f z (n ∷ ns) = IsWithin (dependency files f z n) × ElementsAreWithin files f z ns

-- those of these numbers that are of resources that are put, and of modules
abbrev pub put_among : SourceFile → List ℕ → List ℕ
put_among f numbers = filter (is_put f) numbers

-- the declaration of a number, where it is that of a resource that is put, or of a module
abbrev pub IsPutAt : SourceFile → ℕ → Option DeclaredTree → Type 0
IsPutAt f n (Some d) = (declaration f n ≡ Some d) × (is_put f n ≡ true)
IsPutAt f n None = is_put f n ≡ false

-- its element, where it is
abbrev pub put_element : List SourceFile → SourceFile → Form → ℕ → List Json
put_element files f z n = if is_put f n then element_json files f z n ∷ [] else []

-- ---- how much of the limits they take, in their array, which is left out where there is none

abbrev pub element_extremes : List SourceFile → SourceFile → Form → ℕ → Extremes
element_extremes files f z n = tree_extremes (dependency files f z n)

abbrev pub elements_extremes : List SourceFile → SourceFile → Form → List ℕ → Extremes
elements_extremes files f z [] = nothing
elements_extremes files f z (n ∷ ns) = joined (enclosed (element_extremes files f z n)) (elements_extremes files f z ns)

abbrev pub put_extremes : List SourceFile → SourceFile → Form → ℕ → Extremes
put_extremes files f z n = if is_put f n then enclosed (element_extremes files f z n) else nothing
