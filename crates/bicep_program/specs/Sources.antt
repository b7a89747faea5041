-- The files of a folder, and which Bicep files they are.
use Rattle.std.specs.Prelude.{◌≡◌, ◌≢◌, ℕ, ◌<◌, ◌≤◌, Bool, true, List, length, Option, Some, None}
use Rattle.std.specs.Prelude.{encode_utf8_all}
use Rattle.std.specs.Str.{IsUtf8}
use Rattle.bicep_lexer.specs.declared.fault.LexFault.{LexFault}
use Rattle.bicep_lexer.specs.declared.fault.LexFault.TheVariants as lex
use Rattle.bicep_lexer.specs.Reading.{Standing}
use Rattle.bicep_lexer.specs.Grammar as lexer
use Rattle.bicep_lexer.specs.Faults as faults
use Rattle.bicep_tree.specs.Tree.{FileTree}
use Rattle.bicep_tree.specs.Declarations.{Spells}
use Rattle.bicep_tree.specs.Nesting.{file_nesting}
use Rattle.bicep_parser.specs.declared.fault.ParseFault.{ParseFault}
use Rattle.bicep_parser.specs.declared.fault.ParseFault.TheVariants as parse
use Rattle.bicep_parser.specs.Refused.{Refuses, TellsPlace}

-- a folder: whether its tree reports its files, and the file of each name, which is given by its bytes in UTF-8
pub record Folder : Type 0 where
  pub tells : Bool
  pub file : List ℕ → Option (List ℕ)

abbrev pub folder_of : Bool → (List ℕ → Option (List ℕ)) → Folder
folder_of tells file = record { tells = tells; file = file }

-- these bytes are the file of that name, where the tree reports its files
abbrev pub Holds : Folder → List ℕ → List ℕ → Type 0
Holds folder name bytes = folder.tells ≡ true → folder.file (encode_utf8_all name) ≡ Some bytes

-- there is no file of that name, where the tree reports its files
abbrev pub Lacks : Folder → List ℕ → Type 0
Lacks folder name = folder.tells ≡ true → folder.file (encode_utf8_all name) ≡ None

-- there is a file of that name, where the tree reports its files
abbrev pub Has : Folder → List ℕ → Type 0
Has folder name = folder.tells ≡ true → (bytes : List ℕ) × (folder.file (encode_utf8_all name) ≡ Some bytes)

-- the file of that name has more than 4,194,304 bytes, where the tree reports its files
abbrev pub IsTooLarge : Folder → List ℕ → Type 0
IsTooLarge folder name = folder.tells ≡ true
    → (bytes : List ℕ) × (folder.file (encode_utf8_all name) ≡ Some bytes) × (4194304 < length bytes)

-- the bytes are a text that spells the file, in which no expression nests above 64
pub record IsSourceOf (bytes : List ℕ) (f : FileTree) : Type 0 where
  pub text : IsUtf8 bytes
  pub tokens : List Standing
  pub lexed : lexer.Spells bytes tokens
  pub parsed : Spells f tokens
  pub shallow : file_nesting f ≤ 64

-- the file of that name spells the tree
pub record IsReadAs (folder : Folder) (name : List ℕ) (f : FileTree) : Type 0 where
  pub bytes : List ℕ
  pub held : Holds folder name bytes
  pub small : length bytes ≤ 4194304
  pub source : IsSourceOf bytes f

-- the lexer refuses the bytes with this fault
abbrev pub IsLexFault : List ℕ → LexFault → Type 0
IsLexFault bytes fault = (fault ≢ lex.OutOfMemory) × IsUtf8 bytes × faults.Refuses bytes fault

-- the bytes spell tokens that the parser refuses with this fault
pub record IsParseFault (bytes : List ℕ) (fault : ParseFault) : Type 0 where
  pub text : IsUtf8 bytes
  pub tokens : List Standing
  pub lexed : lexer.Spells bytes tokens
  pub cause : fault ≢ parse.OutOfMemory
  pub refused : Refuses tokens fault
  pub place : TellsPlace tokens fault
