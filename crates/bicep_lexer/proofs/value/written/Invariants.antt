use Rattle.std.proofs.Common.{◌≡◌, ◌++◌, drop, string_bytes}
use Rattle.std.specs.Str.{chars}
use Rattle.bicep_lexer.proofs.value.written.Given as goal

-- what was put, and the rest
abbrev pub invariant-loop-character : goal.invariant-loop-character
invariant-loop-character l = chars (string_bytes l.text) ++ drop l.character-index l.characters ≡ l.characters
