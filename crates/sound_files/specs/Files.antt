-- The file of a program that a resolved file stands for.
use Rattle.std.specs.Prelude.{◌≡◌, ℕ}
use Rattle.resolved_program.specs.Programs.{ResolvedFileTree}
use Rattle.bicep_mentions.specs.Entries.{has_entry}
use Rattle.bicep_checks.specs.Faults.{kinds_of}
use Rattle.bicep_meaning.specs.Files.{SourceFile}

-- the file has the symbols and the declarations of the resolved one, and the variables that read no state have entries
pub record IsFileOf (r : ResolvedFileTree) (f : SourceFile) : Type 0 where
  pub symbols : f.symbols ≡ r.symbols
  pub declared : f.declared ≡ r.declared
  pub entries : (n : ℕ) → f.has_entry n ≡ has_entry (kinds_of r) r.declared.declarations n
