-- Names that are given twice: two that are equal after ASCII case folding.
use Rattle.std.specs.Prelude.{◌≡◌, ℕ, true, List, [], ◌∷◌, ◌++◌, map, Option, Some, None, codes, if◌then◌else◌}
use Rattle.name_set.specs.Names.{is_named}
use Rattle.bicep_symbols.specs.Entries.{Symbol}
use Rattle.bicep_symbols.specs.Outputs.{Named}
use Rattle.bicep_symbols.specs.declared.fault.NameFault.{NameFault}
use Rattle.bicep_symbols.specs.declared.fault.NameFault.TheVariants as fault

-- the offset of the first name that is among these or among those before it
abbrev pub repeated_from : List (List ℕ) → List Named → Option ℕ
repeated_from before [] = None
repeated_from before (n ∷ ns) = if is_named before n.1 then Some n.0 else repeated_from (before ++ n.1 ∷ []) ns

-- the names that no symbol has
unfoldable pub taken : List (List ℕ)
taken = codes "sys" ∷ codes "az" ∷ []

-- the name of a symbol
abbrev pub symbol_name : Symbol → Named
symbol_name s = (s.0, s.1)

-- the first symbol whose name is taken or was given before
abbrev pub repeated_symbol : List Symbol → Option ℕ
repeated_symbol ss = repeated_from taken (map symbol_name ss)

-- the first output whose name was given before
abbrev pub repeated_output : List Named → Option ℕ
repeated_output ns = repeated_from [] ns

-- the fault of a name that is among these
abbrev pub IsAmong : List (List ℕ) → Named → NameFault → Type 0
IsAmong names n (fault.Twice at) = (at ≡ n.0) × (is_named names n.1 ≡ true)
IsAmong names n fault.OutOfMemory = Unit {0}

-- the fault of the first name that is given twice, where there is one
abbrev pub IsTwice : Option ℕ → NameFault → Type 0
IsTwice o (fault.Twice at) = o ≡ Some at
IsTwice o fault.OutOfMemory = Unit {0}
