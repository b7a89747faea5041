-- The name of the member, in bytes and in characters.
use Rattle.std.proofs.Common.{◌≡◌, refl, codes}
use Rattle.std.specs.Str.{chars}
use Rattle.foundation.proofs.AsciiWords.{word}

pub chars_parameters : chars (codes "parameters") ≡ codes "parameters"
chars_parameters = word (codes "parameters") refl
