use Rattle.std.proofs.Common.{◌≡◌, ◌++◌, drop, string_bytes}
use Rattle.std.specs.Str.{chars}
use Rattle.function_lists.proofs.characters.text_of_characters.Given as goal

-- what was put, and the rest
abbrev pub invariant-loop-character : goal.invariant-loop-character
invariant-loop-character l = chars (string_bytes l.text) ++ drop l.character-index l.characters ≡ l.characters
