-- Words of ASCII characters are their own characters.
use Rattle.template_parts.proofs.WordLemmas.{chars_name, chars_count, chars_input}

pub ruleset words = (
  chars_count,
  chars_input,
  chars_name,
)
