-- Which tokens are refused.
use Rattle.std.specs.Prelude.{◌≡◌, ℕ, ◌+◌, ◌-◌, ◌^◌, ◌<◌, ◌≤◌, min, List, [], ◌∷◌, ◌++◌, length, ◌⊎◌}
use Rattle.bicep_lexer.specs.Reading.{Standing}
use Rattle.bicep_tree.specs.declared.terminal.Terminal.{Terminal}
use Rattle.bicep_tree.specs.declared.terminal.Terminal.TheVariants as t
use Rattle.bicep_tree.specs.Tree.{FileTree}
use Rattle.bicep_tree.specs.Terminals.{terminal_of}
use Rattle.bicep_tree.specs.Nesting.{file_nesting}
use Rattle.bicep_tree.specs.Declarations.{Spells}
use Rattle.bicep_parser.specs.declared.fault.ParseFault.{ParseFault}
use Rattle.bicep_parser.specs.declared.fault.ParseFault.TheVariants as fault

-- Why tokens are refused: no file is spelled, or one that nests too deep. Nothing is said where memory ran out.
abbrev pub Refuses : List Standing → ParseFault → Type 0
Refuses ts (fault.NotAFile at) = (f : FileTree) → Spells f ts → ⊥
Refuses ts (fault.TooDeep at) = (f : FileTree) × Spells f ts × (64 < file_nesting f)
Refuses ts fault.OutOfMemory = Unit {0}

-- no file begins with these tokens
abbrev pub BeginNoFile : List Standing → Type 0
BeginNoFile ts = (more : List Standing) (f : FileTree) → Spells f (ts ++ more) → ⊥

-- a file begins with these tokens
abbrev pub BeginAFile : List Standing → Type 0
BeginAFile ts = (more : List Standing) × (f : FileTree) × Spells f (ts ++ more)

-- a file begins with the tokens before the one at this place, and none with those up to it
pub record BreaksAt (ts : List Standing) (at : ℕ) : Type 0 where
  pub before : List Standing
  pub token : Standing
  pub after : List Standing
  pub split : ts ≡ before ++ token ∷ after
  pub place : at ≡ token.1
  pub begun : BeginAFile before
  pub none : BeginNoFile (before ++ token ∷ [])

-- no file within the limit begins with the tokens up to the one at this place
pub record DeepAt (ts : List Standing) (at : ℕ) : Type 0 where
  pub before : List Standing
  pub token : Standing
  pub after : List Standing
  pub split : ts ≡ before ++ token ∷ after
  pub place : at ≡ token.1
  pub deep : (more : List Standing) (f : FileTree) → Spells f ((before ++ token ∷ []) ++ more) → 64 < file_nesting f

-- the offset after a token, at most 2^64 - 1
abbrev pub end_of_token : Standing → ℕ
end_of_token t = min (t.1 + length t.2) (2 ^ 64 - 1)

-- the place is after the last token, and 0 where there is none
abbrev pub EndsAt : List Standing → ℕ → Type 0
EndsAt [] at = at ≡ 0
EndsAt (t ∷ []) at = at ≡ end_of_token t
EndsAt (t ∷ ts) at = EndsAt ts at

-- a statement may begin with the token: with a name, or with a decorator
abbrev pub BeginsAStatement : Terminal → Type 0
BeginsAStatement (t.Name s) = Unit {0}
BeginsAStatement t.At = Unit {0}
BeginsAStatement x = ⊥

-- the statements before the last are within the limit: each file after which a statement begins
abbrev pub EarlierWithin : List Standing → Type 0
EarlierWithin ts = (before : List Standing) (token : Standing) (after : List Standing) (f : FileTree)
    → ts ≡ before ++ token ∷ after → BeginsAStatement (terminal_of token) → Spells f before → file_nesting f ≤ 64

-- The place of a fault. Of tokens that are no file: the first token with which no file continues, or the end, where a
-- file begins with all of them. Of a file that nests too deep: a token such that no file within the limit begins with
-- the tokens up to it, or the end, where only the last statement nests too deep.
abbrev pub TellsPlace : List Standing → ParseFault → Type 0
TellsPlace ts (fault.NotAFile at) = BreaksAt ts at ⊎ (EndsAt ts at × BeginAFile ts)
TellsPlace ts (fault.TooDeep at) = DeepAt ts at ⊎ (EndsAt ts at × EarlierWithin ts)
TellsPlace ts fault.OutOfMemory = Unit {0}

-- no tokens spell two files
abbrev pub SpellOneFile : Type 0
SpellOneFile = (ts : List Standing) (f g : FileTree) → Spells f ts → Spells g ts → f ≡ g
