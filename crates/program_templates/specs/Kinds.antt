-- Symbols whose kinds are those of their declarations, and names that differ.
use Rattle.std.specs.Prelude.{◌≡◌, ℕ, Option, is_some, option_and_then}
use Rattle.bicep_meaning.specs.Files.{SourceFile, declaration, symbol_kind}
use Rattle.bicep_meaning.specs.Instances.{module_of, is_parameter}
use Rattle.parameter_rules.specs.Rules.{type_of}
use Rattle.kept_templates.specs.Modules.{is_module_by}
use Rattle.kept_templates.specs.Found.{Differ}
use Rattle.kept_templates.specs.Lists.{symbol_text, output_text}

-- the number of the file of a module, by the kind of its symbol
abbrev pub file_number : SourceFile → ℕ → Option ℕ
file_number f n = option_and_then module_of (symbol_kind f n)

-- a symbol is of the kind of modules exactly where its declaration is that of one, and the same of parameters
pub record HasKinds (f : SourceFile) : Type 0 where
  pub modules : (n : ℕ) → is_some (file_number f n) ≡ is_module_by (declaration f n)
  pub parameters : (n : ℕ) → is_parameter (symbol_kind f n) ≡ is_some (type_of (declaration f n))

-- no two symbols, and no two outputs, have names that are the same after ASCII case folding
pub record NamesDiffer (f : SourceFile) : Type 0 where
  pub symbols : Differ symbol_text f.symbols
  pub outputs : Differ output_text f.outputs
