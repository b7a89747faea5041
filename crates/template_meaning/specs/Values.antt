-- What a value says in the place of a template where it is. A value of a form that no template has there is refused
-- before, and means here the least that the place can have.
use Rattle.std.specs.Prelude.{ℕ, ℤ, chars, bytes_eq, Bool, false, List, [], Option, Some, None, option_map}
use Rattle.arm_value.specs.Json.{Json, null, bool, int, text, array, object, Member, items, members}
use Rattle.arm_value.specs.Look.{is_same_folded, look}
use Rattle.arm_value.specs.declared.value.Value.{Value}
use Rattle.arm_value.specs.declared.value.Value.TheVariants as value

-- a value that may be missing
abbrev pub Place : Type 0
Place = Option Json

-- what is there as the member of a name, which is spelled in UTF-8: the member of exactly this name, else of this name
-- in letters of any case
abbrev pub inside : List ℕ → Place → Place
inside name None = None
inside name (Some j) = look (chars name) j

abbrev pub value_of : Json → Value
value_of null = value.Null
value_of (bool b) = value.Bool b
value_of (int z) = value.Int z
value_of (text t) = value.Text t
value_of (array js) = value.Array (items js)
value_of (object ms) = value.Object (members ms)

-- the value, where there is one
abbrev pub optional : Place → Option Value
optional o = option_map value_of o

-- the value, which is `null` where there is none
abbrev pub value_in : Place → Value
value_in None = value.Null
value_in (Some j) = value_of j

abbrev pub text_in : Place → List ℕ
text_in (Some (text t)) = t
text_in _ = []

abbrev pub number_in : Place → Option ℤ
number_in (Some (int z)) = Some z
number_in _ = None

abbrev pub is_true : Place → Bool
is_true (Some (bool b)) = b
is_true _ = false

abbrev pub items_in : Place → List Json
items_in (Some (array js)) = items js
items_in _ = []

abbrev pub members_in : Place → List Member
members_in (Some (object ms)) = members ms
members_in _ = []

-- whether exactly this text is there
abbrev pub text_is : List ℕ → Place → Bool
text_is wanted (Some (text t)) = bytes_eq (chars wanted) t
text_is wanted _ = false

-- whether the text of this word is there, in letters of any case
abbrev pub is_word : List ℕ → Place → Bool
is_word word (Some (text t)) = is_same_folded (chars word) t
is_word word _ = false
