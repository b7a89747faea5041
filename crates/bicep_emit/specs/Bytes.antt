-- The bytes of a template.
use Rattle.std.specs.Prelude.{◌≡◌, ◌≤◌, ◌<◌, ◌⊎◌, ℕ, List, length, Some, None}
use Rattle.serde_json.specs.Written.{compact_text}
use Rattle.foundation.specs.declared.limits.TheConstants.{MAX_TEMPLATE_BYTES}
use Rattle.arm_value.specs.Json.{Json, nesting}
use Rattle.arm_value.specs.Reading.{data_of, reading, not_whole}
use Rattle.read_backs.specs.Characters.{HasCharacters}
use Rattle.template_meaning.specs.Describes.{Describes}
use Rattle.template_parts.specs.declared.limit.Which.TheVariants as which
use Rattle.template_tree.specs.Tree.{TemplateTree}
use Rattle.template_tree.specs.View.{template_tree}
use Rattle.template_tree.specs.declared.resource.Template.{Template}
use Rattle.template_written.specs.Keeps.{Keeps}
use Rattle.template_written.specs.Written.{written}
use Rattle.program_parts.specs.EmitFault.{EmitFault}
use Rattle.program_parts.specs.EmitFault.TheVariants as fault

-- the template can be written
pub record CanBeWritten (u : TemplateTree) : Type 0 where
  pub keeps : Keeps u
  pub nests : nesting (written u) ≤ 120

abbrev pub MayBeWritten : Template → Type 0
MayBeWritten t = CanBeWritten (template_tree t)

-- the compact JSON of a value
abbrev pub text_of_value : Json → List ℕ
text_of_value j = compact_text (data_of j)

-- these bytes, of which a template may have so many
abbrev pub AreShort : List ℕ → List ℕ → Type 0
AreShort bytes b = (b ≡ bytes) × (length b ≤ MAX_TEMPLATE_BYTES)

-- the bytes are more than a template may have
abbrev pub AreLong : List ℕ → EmitFault → Type 0
AreLong bytes x = (x ≡ fault.Limit which.Bytes (length bytes)) × (MAX_TEMPLATE_BYTES < length bytes)

-- the bytes are the compact JSON of a value, of which the value is read back
pub record AreBytes (j : Json) (b : List ℕ) : Type 0 where
  pub text : b ≡ text_of_value j
  pub reads : reading b ≡ Some (data_of j)
  pub characters : HasCharacters j
  pub whole : not_whole (data_of j) ≡ None
  pub small : length b ≤ MAX_TEMPLATE_BYTES

abbrev pub HasLongText : Json → EmitFault → Type 0
HasLongText j x = (x ≡ fault.OutOfMemory) ⊎ AreLong (text_of_value j) x

-- the bytes are the compact JSON of the value that is written of a template, and describes it
pub record IsBytesOf (t : Template) (b : List ℕ) : Type 0 where
  pub value : Json
  pub is : value ≡ written (template_tree t)
  pub described : Describes value (template_tree t)
  pub text : b ≡ text_of_value value
  pub reads : reading b ≡ Some (data_of value)
  pub characters : HasCharacters value
  pub whole : not_whole (data_of value) ≡ None
  pub small : length b ≤ MAX_TEMPLATE_BYTES

abbrev pub IsBytesFault : Template → EmitFault → Type 0
IsBytesFault t x = HasLongText (written (template_tree t)) x
