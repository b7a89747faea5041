-- Words of ASCII characters are their own characters.
use Rattle.std.proofs.Common.{◌≡◌, codes, chars, refl}
use Rattle.foundation.proofs.AsciiWords.{word}
use Rattle.template_parts.proofs.WordLemmas.{chars_parameters, chars_variables}

pub chars_reference : chars (codes "reference") ≡ codes "reference"
chars_reference = word (codes "reference") refl

pub ruleset words = (
  chars_parameters,
  chars_variables,
  chars_reference,
)
