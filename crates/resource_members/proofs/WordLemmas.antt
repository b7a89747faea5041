-- Words of ASCII characters are their own characters.
use Rattle.std.proofs.Common.{◌≡◌, codes, chars, refl}
use Rattle.foundation.proofs.AsciiWords.{word}
use Rattle.template_parts.proofs.WordLemmas.{chars_name, chars_copy, chars_count, chars_type, chars_resources}
use Rattle.template_parts.proofs.WordLemmas.{chars_existing, chars_properties, chars_condition, chars_mode}

pub chars_apiVersion : chars (codes "apiVersion") ≡ codes "apiVersion"
chars_apiVersion = word (codes "apiVersion") refl

pub chars_dependsOn : chars (codes "dependsOn") ≡ codes "dependsOn"
chars_dependsOn = word (codes "dependsOn") refl

pub chars_batchSize : chars (codes "batchSize") ≡ codes "batchSize"
chars_batchSize = word (codes "batchSize") refl

pub chars_parallel : chars (codes "parallel") ≡ codes "parallel"
chars_parallel = word (codes "parallel") refl

pub chars_serial : chars (codes "serial") ≡ codes "serial"
chars_serial = word (codes "serial") refl

pub ruleset words = (
  chars_type,
  chars_resources,
  chars_existing,
  chars_properties,
  chars_apiVersion,
  chars_name,
  chars_condition,
  chars_dependsOn,
  chars_copy,
  chars_count,
  chars_mode,
  chars_batchSize,
  chars_parallel,
  chars_serial,
)
