-- Entries of a table.
use Rattle.std.specs.Prelude.{◌≡◌, ◌<◌, ℕ, Bool, true, false, length, List, [], ◌∷◌, Option, Some, slice_get}
use Rattle.emitted_expressions.specs.Files.{SourceFile, type_of}
use Rattle.emitted_expressions.specs.Emitted.{no_value}
use Rattle.kept_parts.specs.Declared.{Emission, id_of_parts, whole}
use Rattle.ordered_emissions.specs.Holes.{holes}
use Rattle.ordered_emissions.specs.Orders.{IsPaired}
use Rattle.declared_types.specs.Types.{AreTypes}
use Rattle.declared_types.specs.declared.resources.Typed.{Typed}
use Rattle.kept_parts.specs.Kept.{IsKept, IsKeptHoles, AreKeptHoles}
use Rattle.declared_table.specs.declared.entry.Entry.{Entry}
use Rattle.declared_table.specs.declared.mark.Mark.{Mark}
use Rattle.declared_table.specs.Seen.{file_of, files_of}
use Rattle.resolved_program.specs.declared.resolved.ResolvedFile.{ResolvedFile}

-- the id of a resource is that of its type and its parts; what is no resource has none
abbrev pub IsId : SourceFile → Emission → ℕ → Bool → Type 0
IsId file b n true = b.scope.id n (holes ∷ []) ≡ id_of_parts (type_of file n).kind (b.parts n (holes ∷ []))
IsId file b n false = b.scope.id n (holes ∷ []) ≡ no_value

-- the entry has what the declaration of that number becomes
pub record IsEntry (file : SourceFile) (b : Emission) (n : ℕ) (e : Entry) : Type 0 where
  pub variable : IsKept (b.scope.variable n) e.variable
  pub items : IsKept (b.scope.items n) e.items
  pub name : IsKeptHoles (b.scope.name n (holes ∷ [])) e.name
  pub full_name : IsKeptHoles (b.full_name n (holes ∷ [])) e.full_name
  pub condition : IsKeptHoles (b.condition n (holes ∷ [])) e.condition
  pub parts : AreKeptHoles (b.parts n (holes ∷ [])) e.parts.items
  pub id : IsId file b n e.is_resource

-- each entry is that of the symbols that have its place
pub record AreEntries (file : SourceFile) (b : Emission) (places : List (Option ℕ)) (es : List Entry) : Type 0 where
  pub there : (n p : ℕ) → slice_get places n ≡ Some (Some p) → p < length es
  pub is : (n p : ℕ) (e : Entry) → slice_get places n ≡ Some (Some p) → slice_get es p ≡ Some e → IsEntry file b n e

-- the table has the types of the file, and an entry for each symbol that has a place
pub record IsTable (r : ResolvedFile) (rs : List ResolvedFile) (marks : List Mark) (ts : List Typed)
    (places : List (Option ℕ)) (es : List Entry) : Type 0 where
  pub paired : IsPaired (file_of r marks)
  pub types : AreTypes (file_of r marks) ts
  pub entries : AreEntries (file_of r marks) (whole (file_of r marks) (files_of rs)) places es
