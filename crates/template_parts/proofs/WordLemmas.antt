-- The characters of words that templates have.
use Rattle.std.proofs.Common.{◌≡◌, codes, chars, refl}
use Rattle.foundation.proofs.AsciiWords.{word}

pub chars_name : chars (codes "name") ≡ codes "name"
chars_name = word (codes "name") refl

pub chars_copy : chars (codes "copy") ≡ codes "copy"
chars_copy = word (codes "copy") refl

pub chars_count : chars (codes "count") ≡ codes "count"
chars_count = word (codes "count") refl

pub chars_type : chars (codes "type") ≡ codes "type"
chars_type = word (codes "type") refl

pub chars_resources : chars (codes "resources") ≡ codes "resources"
chars_resources = word (codes "resources") refl

pub chars_existing : chars (codes "existing") ≡ codes "existing"
chars_existing = word (codes "existing") refl

pub chars_properties : chars (codes "properties") ≡ codes "properties"
chars_properties = word (codes "properties") refl

pub chars_condition : chars (codes "condition") ≡ codes "condition"
chars_condition = word (codes "condition") refl

pub chars_mode : chars (codes "mode") ≡ codes "mode"
chars_mode = word (codes "mode") refl

pub chars_metadata : chars (codes "metadata") ≡ codes "metadata"
chars_metadata = word (codes "metadata") refl

pub chars_input : chars (codes "input") ≡ codes "input"
chars_input = word (codes "input") refl

pub chars_parameters : chars (codes "parameters") ≡ codes "parameters"
chars_parameters = word (codes "parameters") refl

pub chars_variables : chars (codes "variables") ≡ codes "variables"
chars_variables = word (codes "variables") refl
