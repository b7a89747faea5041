-- The functions on base64 (Microsoft Learn: ARM template functions, string; RFC 4648, section 4).
use Rattle.std.specs.Prelude.{ℕ, List, Option, Some, None, option_map, option_and_then, chars, encode_utf8_all}
use Rattle.std.specs.Prelude.{if◌then◌else◌}
use Rattle.std.specs.Str.{is_utf8}
use Rattle.base64.specs.Engines.{standard}
use Rattle.base64.specs.GeneralPurpose.{encode_of, decoded_of}
use Rattle.arm_value.specs.Json.{Json, text}
use Rattle.function_numbers.specs.Kinds.{text_of, of_one}

-- the base64 of a text's bytes in UTF-8: the standard alphabet, with padding
abbrev pub encoded : List ℕ → List ℕ
encoded s = encode_of standard (encode_utf8_all s)

-- `base64`
abbrev pub to_base64 : List Json → Option Json
to_base64 args =
    of_one (λ j. option_map (λ s. text (encoded s)) (text_of j)) args

-- the text whose bytes in UTF-8 these are
abbrev pub text_of_bytes : List ℕ → Option (List ℕ)
text_of_bytes bytes = if is_utf8 bytes then Some (chars bytes) else None

-- the text whose base64 this is; none where it is no base64 with its padding, or not of UTF-8
abbrev pub decoded : List ℕ → Option (List ℕ)
decoded s = option_and_then text_of_bytes (decoded_of standard (encode_utf8_all s))

-- `base64ToString`
abbrev pub base64_to_string : List Json → Option Json
base64_to_string args =
    of_one (λ j. option_map text (option_and_then decoded (text_of j))) args
