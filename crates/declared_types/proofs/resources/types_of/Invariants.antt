use Rattle.std.proofs.Common.{◌≡◌, length, map}
use Rattle.bicep_symbols.specs.Entries.{symbol_of}
use Rattle.bicep_declared.specs.View.{declared_tree}
use Rattle.bicep_meaning.specs.Files.{SourceFile}
use Rattle.declared_types.specs.Types.{HasSymbols, AreTypesFrom}
use Rattle.declared_types.proofs.resources.types_of.Given as goal

-- the types of the first symbols
abbrev pub invariant-loop-number : goal.invariant-loop-number
invariant-loop-number l =
    ((f : SourceFile) → HasSymbols f (map symbol_of l.entries) (map declared_tree l.declarations)
    → AreTypesFrom f 0 l.all.items) × (length l.all.items ≡ l.number)
