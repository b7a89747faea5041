-- One path after another.
use Rattle.std.specs.Prelude.{◌≡◌, ℕ, ◌<◌, List, length, slice_get}
use Rattle.module_links.specs.Paths.{file_at}

-- the number is that of the file which a path in a file names
abbrev pub LinksTo : List (List ℕ) → List ℕ → List ℕ → ℕ → Type 0
LinksTo names file path k = (k < length names) × (slice_get names k ≡ file_at file path)
