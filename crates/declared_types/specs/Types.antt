-- The types of the resources of a file, as a list.
use Rattle.std.specs.Prelude.{◌≡◌, ℕ, suc, length, List, [], ◌∷◌, Option, option_map, option_and_then}
use Rattle.bicep_symbols.specs.Entries.{Symbol}
use Rattle.bicep_declared.specs.Declarations.{DeclaredTree}
use Rattle.bicep_meaning.specs.Files.{SourceFile, Typed, typed, around_kind, type_of}
use Rattle.declared_types.specs.declared.resources.Typed as code

-- the file has these symbols and these declarations
pub record HasSymbols (f : SourceFile) (ss : List Symbol) (ds : List DeclaredTree) : Type 0 where
  pub symbols : f.symbols ≡ ss
  pub declarations : f.declared.declarations ≡ ds

abbrev pub typed_of : code.Typed → Typed
typed_of t = typed t.kind t.version

-- the resource around a symbol
abbrev pub around_in : Option Symbol → Option ℕ
around_in o = option_and_then around_kind (option_map (λ x. x.2) o)

-- the types of the symbols from a number on
abbrev pub AreTypesFrom : SourceFile → ℕ → List code.Typed → Type 0
AreTypesFrom f n [] = Unit {0}
AreTypesFrom f n (t ∷ ts) = (typed_of t ≡ type_of f n) × AreTypesFrom f (suc n) ts

-- the types of all symbols
abbrev pub AreTypes : SourceFile → List code.Typed → Type 0
AreTypes f ts = AreTypesFrom f 0 ts × (length ts ≡ length f.symbols)
