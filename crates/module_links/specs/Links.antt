-- The files that were named so far, and the numbers by which files name each other.
use Rattle.std.specs.Prelude.{◌≡◌, ℕ, ◌<◌, List, ◌++◌, length, map, Some, None, false, bytes_eq}
use Rattle.std.specs.Prelude.{slice_get, Contains}
use Rattle.std.specs.List.{AllByRecursion, IsDistinct}
use Rattle.module_links.specs.Paths.{file_at}
use Rattle.module_links.specs.declared.entry.Entry.{Entry}
use Rattle.module_links.specs.declared.links.LinkFault.{LinkFault}
use Rattle.module_links.specs.declared.links.LinkFault.TheVariants as fault

abbrev pub entry_names : List Entry → List (List ℕ)
entry_names entries = map (λ entry. entry.name) entries

-- the name is none of these
abbrev pub IsNew : List (List ℕ) → List ℕ → Type 0
IsNew names name = AllByRecursion (λ other. bytes_eq other name ≡ false) names

-- the numbers are those of the files that these paths name in a file
pub record AreLinked (names : List (List ℕ)) (file : List ℕ) (paths : List (List ℕ)) (numbers : List ℕ) : Type 0 where
  pub files : map (slice_get names) numbers ≡ map (file_at file) paths
  pub within : AllByRecursion (λ k. k < length names) numbers

-- the entry is a file that one of these paths names in a file
pub record IsNamedBy (file : List ℕ) (paths : List (List ℕ)) (entry : Entry) : Type 0 where
  pub by_is : entry.by ≡ file
  pub written : Contains paths entry.path
  pub found : file_at file entry.path ≡ Some entry.name

-- only files that these paths name in a file were added, and each once
pub record Adds (file : List ℕ) (paths : List (List ℕ)) (old new : List Entry) : Type 0 where
  pub more : List Entry
  pub new_is : new ≡ old ++ more
  pub named : AllByRecursion (IsNamedBy file paths) more
  pub once : IsDistinct bytes_eq (entry_names old) → IsDistinct bytes_eq (entry_names new)

-- why paths in a file are not linked: one of them names no file
abbrev pub IsUnlinked : List ℕ → List (List ℕ) → LinkFault → Type 0
IsUnlinked file paths (fault.Nowhere path) = Contains paths path × (file_at file path ≡ None)
IsUnlinked file paths fault.OutOfMemory = Unit {0}
