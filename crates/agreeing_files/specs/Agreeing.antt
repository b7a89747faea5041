-- Files that agree in what emission looks at.
use Rattle.std.specs.Prelude.{◌≡◌, ℕ, List, map}
use Rattle.bicep_meaning.specs.Files.{SourceFile}

-- the same symbols and declarations, and the same variables have an entry
pub record Agree (f g : SourceFile) : Type 0 where
  pub symbols : f.symbols ≡ g.symbols
  pub declared : f.declared ≡ g.declared
  pub has_entry : (n : ℕ) → f.has_entry n ≡ g.has_entry n

-- the names of the outputs of each file
abbrev pub outputs_of : List SourceFile → List (List (List ℕ))
outputs_of fs = map (λ f. f.outputs) fs
