-- Tables of all declarations of a file.
use Rattle.std.specs.Prelude.{◌≡◌, ℕ, List}
use Rattle.tree_building.specs.Emitted.{Frame}
use Rattle.emission_laws.specs.Holes.{IsRun}
use Rattle.declared_table.specs.Sight.{Sight}
use Rattle.declared_table.specs.Seen.{Shape, sight, whole_sight, file_in, files_in, whole_in, full_name_in, condition_in}

-- the table has all declarations, with whole names and conditions, with the loop around a declaration or without one
pub record IsFilled (s : Shape) : Type 0 where
  pub declarations : sight s ≡ whole_sight (file_in s) (files_in s)
  pub names : (n : ℕ) (fs : List Frame) → IsRun fs → full_name_in s n fs ≡ (whole_in s).full_name n fs
  pub conditions : (n : ℕ) (fs : List Frame) → IsRun fs → condition_in s n fs ≡ (whole_in s).condition n fs

-- the file, and what its declarations become
abbrev pub emission_sight : Shape → Sight
emission_sight s = record { file = file_in s; files = files_in s; scope = (whole_in s).scope }
