-- Words of ASCII characters are their own characters.
use Rattle.std.proofs.Common.{◌≡◌, codes, chars, refl}
use Rattle.foundation.proofs.AsciiWords.{word}
use Rattle.template_parts.proofs.WordLemmas.{chars_name, chars_copy, chars_count, chars_type, chars_condition}
use Rattle.template_parts.proofs.WordLemmas.{chars_metadata, chars_input}

pub chars_value : chars (codes "value") ≡ codes "value"
chars_value = word (codes "value") refl

pub chars_defaultValue : chars (codes "defaultValue") ≡ codes "defaultValue"
chars_defaultValue = word (codes "defaultValue") refl

pub chars_allowedValues : chars (codes "allowedValues") ≡ codes "allowedValues"
chars_allowedValues = word (codes "allowedValues") refl

pub chars_minValue : chars (codes "minValue") ≡ codes "minValue"
chars_minValue = word (codes "minValue") refl

pub chars_maxValue : chars (codes "maxValue") ≡ codes "maxValue"
chars_maxValue = word (codes "maxValue") refl

pub chars_minLength : chars (codes "minLength") ≡ codes "minLength"
chars_minLength = word (codes "minLength") refl

pub chars_maxLength : chars (codes "maxLength") ≡ codes "maxLength"
chars_maxLength = word (codes "maxLength") refl

pub chars_string : chars (codes "string") ≡ codes "string"
chars_string = word (codes "string") refl

pub chars_securestring : chars (codes "securestring") ≡ codes "securestring"
chars_securestring = word (codes "securestring") refl

pub chars_int : chars (codes "int") ≡ codes "int"
chars_int = word (codes "int") refl

pub chars_bool : chars (codes "bool") ≡ codes "bool"
chars_bool = word (codes "bool") refl

pub chars_object : chars (codes "object") ≡ codes "object"
chars_object = word (codes "object") refl

pub chars_secureObject : chars (codes "secureObject") ≡ codes "secureObject"
chars_secureObject = word (codes "secureObject") refl

pub chars_array : chars (codes "array") ≡ codes "array"
chars_array = word (codes "array") refl

pub ruleset words = (
  chars_name,
  chars_type,
  chars_value,
  chars_copy,
  chars_condition,
  chars_metadata,
  chars_count,
  chars_input,
  chars_defaultValue,
  chars_allowedValues,
  chars_minValue,
  chars_maxValue,
  chars_minLength,
  chars_maxLength,
  chars_string,
  chars_securestring,
  chars_int,
  chars_bool,
  chars_object,
  chars_secureObject,
  chars_array,
)
