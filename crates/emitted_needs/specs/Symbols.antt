-- What the symbols of a file without faults have: names of letters and digits, which differ.
use Rattle.std.specs.Prelude.{◌≡◌, ℕ, true, List, Some}
use Rattle.arm_expr.specs.Grammar.{IsName}
use Rattle.arm_value.specs.Look.{fold}
use Rattle.deploy_cells.specs.Cells.{Position}
use Rattle.bicep_meaning.specs.Files.{SourceFile, symbol_name}
use Rattle.bicep_meaning.specs.Instances.{SourceProgram, file_at}
use Rattle.source_worlds.specs.Numbers.{is_put}

pub record HasSymbols (f : SourceFile) : Type 0 where
  -- a resource that is put and a module have a name
  pub named : (n : ℕ) → is_put f n ≡ true → (x : List ℕ) × (symbol_name f n ≡ Some x)
  pub names : (n : ℕ) (x : List ℕ) → symbol_name f n ≡ Some x → IsName x
  -- two symbols have names that differ, also after folding
  pub differ : (n m : ℕ) (x y : List ℕ) → symbol_name f n ≡ Some x → symbol_name f m ≡ Some y → fold x ≡ fold y
      → n ≡ m

abbrev pub HaveSymbols : SourceProgram → Type 0
HaveSymbols d = (p : Position) (f : SourceFile) → file_at d.files p ≡ Some f → HasSymbols f
