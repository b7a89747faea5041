-- The texts of the types of outputs.
use Rattle.std.specs.Prelude.{ℕ, List, [], ◌∷◌, codes}
use Rattle.template_parts.specs.declared.value_type.ValueType.{ValueType}
use Rattle.template_parts.specs.declared.value_type.ValueType.TheVariants as type

abbrev pub first_texts : List (List ℕ)
first_texts = codes "string" ∷ codes "securestring" ∷ codes "int" ∷ codes "bool" ∷ []

abbrev pub type_texts : List (List ℕ)
type_texts =
    codes "string" ∷ codes "securestring" ∷ codes "int" ∷ codes "bool" ∷ codes "object" ∷ codes "secureObject"
    ∷ codes "array" ∷ []

-- the place of the text of a type
abbrev pub text_place : ValueType → ℕ
text_place type.String = 0
text_place type.SecureString = 1
text_place type.Int = 2
text_place type.Bool = 3
text_place type.Object = 4
text_place type.SecureObject = 5
text_place type.Array = 6
