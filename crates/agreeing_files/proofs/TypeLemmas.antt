-- Files that differ in what emission does not look at: the types of their resources.
use Rattle.std.proofs.Common.{◌≡◌, ℕ, zero, suc, length, refl}
use Rattle.std.specs.Prelude.{option_and_then}
use Rattle.bicep_meaning.specs.Files.{SourceFile, symbol_kind, declaration, type_by, type_text, type_within}
use Rattle.bicep_meaning.specs.Files.{type_of, around_kind}

-- a file with the outputs, the list of modules, the values of parameters and the batches of another
abbrev pub other : SourceFile → SourceFile → SourceFile
other f from = record {
  symbols = f.symbols;
  declared = f.declared;
  outputs = from.outputs;
  modules = from.modules;
  has_entry = f.has_entry;
  accepts = from.accepts;
  batches = from.batches;
}

module _ (f from : SourceFile) where
  within_same : (k n : ℕ) → type_within f k n ≡ type_within (other f from) k n
  unfolding type_within
  within_same zero n = refl
  within_same (suc k) n =
      λ i. type_by (λ m. within_same k m i) (option_and_then around_kind (symbol_kind f n))
      (type_text (declaration f n))

  pub type_same : (n : ℕ) → type_of f n ≡ type_of (other f from) n
  type_same n = within_same (length f.symbols) n
