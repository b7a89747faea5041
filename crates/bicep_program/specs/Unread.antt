-- Why a file is not read.
use Rattle.std.specs.Prelude.{◌≡◌, ℕ, ◌≤◌, List, length}
use Rattle.std.specs.Str.{IsUtf8}
use Rattle.arm_edges.specs.Faults.{Rose}
use Rattle.bicep_lexer.specs.declared.fault.LexFault.{LexFault}
use Rattle.bicep_lexer.specs.declared.fault.LexFault.TheVariants as lex
use Rattle.bicep_parser.specs.declared.fault.ParseFault.{ParseFault}
use Rattle.bicep_parser.specs.declared.fault.ParseFault.TheVariants as parse
use Rattle.bicep_program.specs.Sources.{Folder, Holds, IsTooLarge, IsLexFault, IsParseFault}
use Rattle.bicep_program.specs.declared.sources.FileFault.{FileFault}
use Rattle.bicep_program.specs.declared.sources.FileFault.TheVariants as fault

abbrev pub lex_fault : LexFault → FileFault
lex_fault lex.OutOfMemory = fault.OutOfMemory
lex_fault f = fault.Lex f

abbrev pub parse_fault : ParseFault → FileFault
parse_fault parse.OutOfMemory = fault.OutOfMemory
parse_fault f = fault.Parse f

-- why bytes are the source of no file
abbrev pub IsNoSource : List ℕ → FileFault → Type 0
IsNoSource bytes fault.NotText = ¬ IsUtf8 bytes
IsNoSource bytes (fault.Lex f) = IsLexFault bytes f
IsNoSource bytes (fault.Parse f) = IsParseFault bytes f
IsNoSource bytes fault.OutOfMemory = Unit {0}
IsNoSource bytes fault.ReadFault = ⊥
IsNoSource bytes fault.TooLarge = ⊥

-- the file of that name has these bytes, and is not too large
abbrev pub IsHeld : Folder → List ℕ → List ℕ → Type 0
IsHeld folder name bytes = Holds folder name bytes × (length bytes ≤ 4194304)

-- why the file of that name is not read
abbrev pub IsNotRead : Folder → List ℕ → FileFault → Type 0
IsNotRead folder name fault.TooLarge = IsTooLarge folder name
IsNotRead folder name fault.ReadFault = Unit {0}
IsNotRead folder name fault.OutOfMemory = Unit {0}
IsNotRead folder name fault.NotText = (bytes : List ℕ) × Holds folder name bytes × (¬ IsUtf8 bytes)
IsNotRead folder name (fault.Lex f) = (bytes : List ℕ) × Holds folder name bytes × IsLexFault bytes f
IsNotRead folder name (fault.Parse f) = (bytes : List ℕ) × Holds folder name bytes × IsParseFault bytes f

-- the count of the tree's faults rises where a file could not be read, and is unchanged otherwise
abbrev pub Counts : ℕ → ℕ → FileFault → Type 0
Counts before now fault.ReadFault = Rose before now
Counts before now fault.OutOfMemory = now ≡ before
Counts before now fault.TooLarge = now ≡ before
Counts before now fault.NotText = now ≡ before
Counts before now (fault.Lex f) = now ≡ before
Counts before now (fault.Parse f) = now ≡ before
