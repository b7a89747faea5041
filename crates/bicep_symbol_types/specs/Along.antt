-- The types of symbols that are found one after another.
use Rattle.std.specs.Prelude.{ℕ, List, [], ◌∷◌, Option, Some, None, map, slice_get, set}
use Rattle.bicep_declared.specs.Declarations.{DeclaredTree}
use Rattle.bicep_signatures.specs.declared.value_type.ValueType.{ValueType}
use Rattle.bicep_signatures.specs.declared.value_type.ValueType.TheVariants as t
use Rattle.bicep_symbol_types.specs.SymbolTypes.{symbol_type, with_outputs}

-- the type that a declaration says, where there is one
abbrev pub type_by : List (List ValueType) → List ValueType → Option DeclaredTree → ValueType
type_by os xs None = t.Any
type_by os xs (Some d) = symbol_type (with_outputs os xs) d

-- with the type of the symbol of that number found by the others
abbrev pub renewed : List (List ValueType) → List DeclaredTree → ℕ → List ValueType → List ValueType
renewed os ds n xs = set xs n (type_by os xs (slice_get ds n))

-- with the types of the symbols of these numbers found, one after another
unfoldable pub types_along : List (List ValueType) → List DeclaredTree → List ℕ → List ValueType → List ValueType
types_along os ds [] xs = xs
types_along os ds (n ∷ ns) xs = types_along os ds ns (renewed os ds n xs)

-- nothing is known of any symbol
abbrev pub any : DeclaredTree → ValueType
any d = t.Any

abbrev pub none_known : List DeclaredTree → List ValueType
none_known ds = map any ds
