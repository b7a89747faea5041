-- What the fields of a head say of the body and of the connection (RFC 9112, sections 6 and 9.6).
use Rattle.std.specs.Prelude.{ℕ, Bool, ◌&&◌, ◌||◌, not, List, [], ◌∷◌, codes, bytes_eq, ◌==◌, nat_le, length, map}
use Rattle.std.specs.Prelude.{if◌then◌else◌}
use Rattle.std.specs.List.{list_any, list_all}
use Rattle.std.specs.Char.{is_ascii_digit}
use Rattle.std.specs.Str.Parse.{digits_value}
use Rattle.arm_value.specs.Look.{is_same_folded}
use Rattle.httparse.specs.Grammar.{RequestHead}
use Rattle.httparse.specs.Spans.{name_and_value}
use Rattle.http_heads.specs.declared.fields.BodyLength.{BodyLength}
use Rattle.http_heads.specs.declared.fields.BodyLength.TheVariants.{Absent, Bad, Bytes, TooLarge}

-- the name of a field, and its value without the white space around it
abbrev pub Pair : Type 0
Pair = List ℕ × List ℕ

-- the fields of a head
abbrev pub fields_of : RequestHead → List Pair
fields_of h = map name_and_value h.fields

-- whether the field has this name, in letters of any case
abbrev pub is_named : List ℕ → Pair → Bool
is_named name field = is_same_folded name field.0

-- the values of the fields of this name, in their order
abbrev pub values : List ℕ → List Pair → List (List ℕ)
values name [] = []
values name (field ∷ fields) = if is_named name field then field.1 ∷ values name fields else values name fields

-- whether the value is a number in decimal digits
abbrev pub is_number : List ℕ → Bool
is_number value = not (length value == 0) && list_all is_ascii_digit value

-- this many bytes, where they are not too many
abbrev pub bounded : ℕ → BodyLength
bounded total = if nat_le total 4194304 then Bytes total else TooLarge

-- the length that a value spells
unfoldable pub sized : List ℕ → BodyLength
sized value = if is_number value then bounded (digits_value 10 value) else Bad

-- the length that these values spell, which must be spelled alike
abbrev pub agreed : List (List ℕ) → BodyLength
agreed [] = Absent
agreed (value ∷ values) = if list_all (bytes_eq value) values then sized value else Bad

-- what the fields say of the length of the body
abbrev pub body_length : List Pair → BodyLength
body_length fields = agreed (values (codes "content-length") fields)

-- whether the body is sent in another form than as so many bytes
abbrev pub is_coded : List Pair → Bool
is_coded fields = list_any (is_named (codes "transfer-encoding")) fields

-- whether the field says that the connection is closed
abbrev pub says_close : Pair → Bool
says_close field = is_named (codes "connection") field && is_same_folded (codes "close") field.1

-- whether the connection is closed after a request of this minor version
abbrev pub closes : ℕ → List Pair → Bool
closes minor fields = minor == 0 || list_any says_close fields
