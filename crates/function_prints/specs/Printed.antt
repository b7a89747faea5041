-- The functions that print values (Microsoft Learn: ARM template functions, string and array).
use Rattle.std.specs.Prelude.{ℕ, ◌-◌, pos, nat_le, true, false, codes, chars, List, [], ◌∷◌, ◌++◌, length, replicate}
use Rattle.std.specs.Prelude.{Option, Some, None, option_map, option_and_then, if◌then◌else◌}
use Rattle.std.specs.Fmt.{signed_decimal}
use Rattle.std.specs.List.{flat_map}
use Rattle.serde_json.specs.Written.{compact_text}
use Rattle.arm_value.specs.Json.{Json, null, bool, int, text, array, object, items}
use Rattle.arm_value.specs.Reading.{data_of}
use Rattle.function_texts.specs.Kinds.{text_of, of_one, of_two}
use Rattle.function_lists.specs.Items.{concat_arrays}

-- the printed form: a text itself, a number's decimal digits, `True` or `False`, nothing for null, and else the
-- compact JSON text
abbrev pub printed : Json → List ℕ
printed null = []
printed (bool true) = codes "True"
printed (bool false) = codes "False"
printed (int z) = signed_decimal z
printed (text s) = s
printed (array js) = chars (compact_text (data_of (array js)))
printed (object ms) = chars (compact_text (data_of (object ms)))

-- `string`
abbrev pub to_text : List Json → Option Json
to_text args = of_one (λ j. Some (text (printed j))) args

-- the printed form of a text, a number or a truth value
abbrev pub printed_scalar : Json → Option (List ℕ)
printed_scalar (text s) = Some (printed (text s))
printed_scalar (int z) = Some (printed (int z))
printed_scalar (bool b) = Some (printed (bool b))
printed_scalar _ = None

-- the printed forms of all these, one after another
unfoldable pub printed_scalars : List Json → Option (List ℕ)
printed_scalars [] = Some []
printed_scalars (j ∷ js) = option_and_then (λ s. option_map (λ rest. s ++ rest) (printed_scalars js)) (printed_scalar j)

-- `concat`: of arrays their items, else the printed forms of texts, numbers and truth values
abbrev pub concat_by : Json → List Json → Option Json
concat_by (array js) args = concat_arrays args
concat_by _ args = option_map text (printed_scalars args)

abbrev pub concat : List Json → Option Json
concat [] = None
concat (j ∷ js) = concat_by j (j ∷ js)

-- the printed forms with a text between them
abbrev pub joined_by : List ℕ → List Json → List ℕ
joined_by between [] = []
joined_by between (j ∷ js) = printed j ++ flat_map (λ k. between ++ printed k) js

abbrev pub join_items : Json → Json → Option Json
join_items (array js) (text between) = Some (text (joined_by between (items js)))
join_items _ _ = None

abbrev pub join : List Json → Option Json
join args = of_two join_items args

-- a width that can be filled: 0 to 10,000
abbrev pub width_of : Json → Option ℕ
width_of (int (pos n)) = if nat_le n 10000 then Some n else None
width_of _ = None

-- the one character of a text
abbrev pub one_character : List ℕ → Option ℕ
one_character (c ∷ []) = Some c
one_character _ = None

-- the one character of a value that is a text
abbrev pub fill_of : Json → Option ℕ
fill_of j = option_and_then one_character (text_of j)

-- the text of a width, filled with the character on its left
abbrev pub filled : ℕ → ℕ → List ℕ → List ℕ
filled width c s = replicate (width - length s) c ++ s

-- the printed form of a text or a number
abbrev pub fillable : Json → Option (List ℕ)
fillable (text s) = Some (printed (text s))
fillable (int z) = Some (printed (int z))
fillable _ = None

abbrev pub pad_by : Json → Json → Option ℕ → Option Json
pad_by j k fill =
    option_and_then (λ c. option_and_then (λ width. option_map (λ s. text (filled width c s)) (fillable j))
    (width_of k)) fill

-- `padLeft`, with spaces where no character is given
abbrev pub pad_left : List Json → Option Json
pad_left (j ∷ k ∷ []) = pad_by j k (Some 32)
pad_left (j ∷ k ∷ l ∷ []) = pad_by j k (fill_of l)
pad_left _ = None
