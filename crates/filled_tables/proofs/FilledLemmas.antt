-- Expressions with a table of all declarations.
use Rattle.std.proofs.Common.{◌≡◌, ℕ, List, length, ap, ◌∙◌}
use Rattle.tree_building.specs.Emitted.{Frame}
use Rattle.emission_laws.specs.Sound.{IsSound}
use Rattle.emission_laws.specs.Holes.{IsRun}
use Rattle.emission_laws.proofs.FilledLemmas.{has_holes, refilled_same}
use Rattle.tree_building.specs.Sight.{expression}
use Rattle.declared_table.specs.Seen.{Shape, sight, file_in, files_in, whole_in}
use Rattle.filled_tables.specs.Filled.{IsFilled, emission_sight}
use Rattle.filled_tables.specs.Same.{SameExpressions}

pub expressions_given : (s : Shape) → IsFilled s → IsSound (file_in s) → SameExpressions (sight s) (emission_sight s)
expressions_given s filled sound e fs =
    ap (λ x. expression x e fs) filled.declarations
    ∙ refilled_same (file_in s) (files_in s) sound (length (file_in s).symbols) e fs

pub items_given : (s : Shape) → IsFilled s → (n : ℕ) → (sight s).scope.items n ≡ (whole_in s).scope.items n
items_given s filled n = ap (λ x. x.scope.items n) filled.declarations

module _ (s : Shape) (filled : IsFilled s) (sound : IsSound (file_in s)) (n : ℕ) (fs : List Frame)
    (run : IsRun fs) where
  pub name_given : (sight s).scope.name n fs ≡ (whole_in s).scope.name n fs
  name_given =
      ap (λ x. x.scope.name n fs) filled.declarations
      ∙ (has_holes (file_in s) (files_in s) sound (length (file_in s).symbols) n).name fs run

  pub id_given : (sight s).scope.id n fs ≡ (whole_in s).scope.id n fs
  id_given =
      ap (λ x. x.scope.id n fs) filled.declarations
      ∙ (has_holes (file_in s) (files_in s) sound (length (file_in s).symbols) n).id fs run
