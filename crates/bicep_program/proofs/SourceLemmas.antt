-- Why bytes are the source of no file.
use Rattle.std.proofs.Common.{ℕ, List}
use Rattle.std.specs.Prelude.{◌≢◌}
use Rattle.std.specs.Str.{IsUtf8}
use Rattle.bicep_lexer.specs.declared.fault.LexFault.{LexFault}
use Rattle.bicep_lexer.specs.declared.fault.LexFault.TheVariants as lex
use Rattle.bicep_lexer.specs.Reading.{Standing}
use Rattle.bicep_lexer.specs.Grammar as lexer
use Rattle.bicep_lexer.specs.Faults as faults
use Rattle.bicep_parser.specs.declared.fault.ParseFault.{ParseFault}
use Rattle.bicep_parser.specs.declared.fault.ParseFault.TheVariants as parse
use Rattle.bicep_parser.specs.Refused.{Refuses, TellsPlace}
use Rattle.bicep_program.specs.Sources.{Folder, Holds}
use Rattle.bicep_program.specs.Unread.{IsNoSource, IsNotRead, lex_fault, parse_fault}
use Rattle.bicep_program.specs.declared.sources.FileFault.{FileFault}
use Rattle.bicep_program.specs.declared.sources.FileFault.TheVariants as fault

-- the lexer refused them
pub lex_refused : (bytes : List ℕ) (f : LexFault) → IsUtf8 bytes → (f ≢ lex.OutOfMemory → faults.Refuses bytes f)
    → IsNoSource bytes (lex_fault f)
lex_refused bytes (lex.BadCharacter at) u h =
    let n : lex.BadCharacter at ≢ lex.OutOfMemory = (λ e. cc) in (n, u, h n)
lex_refused bytes (lex.OpenText at) u h =
    let n : lex.OpenText at ≢ lex.OutOfMemory = (λ e. cc) in (n, u, h n)
lex_refused bytes (lex.BadEscape at) u h =
    let n : lex.BadEscape at ≢ lex.OutOfMemory = (λ e. cc) in (n, u, h n)
lex_refused bytes (lex.OpenComment at) u h =
    let n : lex.OpenComment at ≢ lex.OutOfMemory = (λ e. cc) in (n, u, h n)
lex_refused bytes (lex.BadNumber at) u h =
    let n : lex.BadNumber at ≢ lex.OutOfMemory = (λ e. cc) in (n, u, h n)
lex_refused bytes lex.OutOfMemory u h = tt

-- the parser refused their tokens
pub parse_refused : (bytes : List ℕ) (ts : List Standing) (f : ParseFault) → IsUtf8 bytes → lexer.Spells bytes ts
    → Refuses ts f → TellsPlace ts f → IsNoSource bytes (parse_fault f)
parse_refused bytes ts (parse.NotAFile at) u s r p = record {
  text = u;
  tokens = ts;
  lexed = s;
  cause = λ e. cc;
  refused = r;
  place = p;
}
parse_refused bytes ts (parse.TooDeep at) u s r p = record {
  text = u;
  tokens = ts;
  lexed = s;
  cause = λ e. cc;
  refused = r;
  place = p;
}
parse_refused bytes ts parse.OutOfMemory u s r p = tt

-- the bytes are those of a file
pub source_refused : (folder : Folder) (name bytes : List ℕ) (f : FileFault) → Holds folder name bytes
    → IsNoSource bytes f → IsNotRead folder name f
source_refused folder name bytes fault.NotText held h = (bytes, held, h)
source_refused folder name bytes (fault.Lex f) held h = (bytes, held, h)
source_refused folder name bytes (fault.Parse f) held h = (bytes, held, h)
source_refused folder name bytes fault.OutOfMemory held h = tt
source_refused folder name bytes fault.ReadFault held h = absurd h
source_refused folder name bytes fault.TooLarge held h = absurd h
