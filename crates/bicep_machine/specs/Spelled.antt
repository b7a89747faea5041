-- What the machine has to do with the grammar.
use Rattle.std.specs.Prelude.{◌≡◌, ℕ, ◌≤◌, ◌<◌, List, [], Some}
use Rattle.bicep_tree.specs.Tree.{FileTree}
use Rattle.bicep_tree.specs.Terminals.{Placed}
use Rattle.bicep_tree.specs.Nesting.{file_nesting}
use Rattle.bicep_tree.specs.Declarations.{a_file}
use Rattle.bicep_machine.specs.Kept.{Kept}
use Rattle.bicep_machine.specs.Machine.{parsed}

-- what is kept of a file: all of it and how deep it nests, or that it nests above the limit
pub record IsKept (most : ℕ) (f : FileTree) (k : Kept FileTree) : Type 0 where
  pub whole : file_nesting f ≤ most → k ≡ (f, file_nesting f)
  pub deep : most < file_nesting f → most < k.1

-- a file that tokens spell is read of them
abbrev pub SpelledIsRead : Type 0
SpelledIsRead = (most : ℕ) (f : FileTree) (ts : List Placed) → 1 ≤ most → a_file f ts [] → (k : Kept FileTree)
    × (parsed most ts ≡ Some k) × IsKept most f k

-- what is read of tokens is a file that they spell
abbrev pub ReadIsSpelled : Type 0
ReadIsSpelled = (most : ℕ) (ts : List Placed) (k : Kept FileTree) → parsed most ts ≡ Some k → (f : FileTree)
    × a_file f ts [] × IsKept most f k
