use Rattle.std.proofs.Common.{◌≡◌, ◌++◌, drop, string_bytes}
use Rattle.std.specs.Str.{chars}
use Rattle.bicep_lexer.specs.Values.{unescaped, unescaped_from}
use Rattle.bicep_lexer.proofs.value.unescaped.Given as goal

-- what was put, and what the rest gives
abbrev pub invariant-loop-character : goal.invariant-loop-character
invariant-loop-character l =
    chars (string_bytes l.text) ++ unescaped_from l.mode (drop l.character-index l.characters)
    ≡ unescaped l.characters
