-- Files that are alike but for the values of their parameters and the list of their modules.
use Rattle.std.specs.Prelude.{◌≡◌, ℕ}
use Rattle.bicep_meaning.specs.Files.{SourceFile}
use Rattle.agreeing_files.specs.Agreeing.{Agree}

-- the same symbols, declarations and outputs; the same variables have an entry, and loops have the same batches
pub record AreAlike (f g : SourceFile) : Type 0 where
  pub agree : Agree f g
  pub outputs : f.outputs ≡ g.outputs
  pub batches : (n : ℕ) → f.batches n ≡ g.batches n
