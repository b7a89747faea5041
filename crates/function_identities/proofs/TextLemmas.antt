-- Texts of bytes, and texts of ASCII characters.
use Rattle.std.proofs.Common.{◌≡◌, ℕ, List, true, false, Option, Some, None, Ok, Err, chars, IsUtf8, refl, sym, ap}
use Rattle.std.proofs.Common.{inl, inr, true≢false}
use Rattle.std.specs.Result.{result_ok}
use Rattle.std.specs.Str.{is_utf8}
use Rattle.std.proofs.lemmas.Bool.{cases_Bool}
use Rattle.std.proofs.lemmas.Str.{chars-IsAscii, is_utf8-from_IsUtf8, IsUtf8-from_is_utf8}
use Rattle.base64.specs.Engines.{standard}
use Rattle.base64.specs.GeneralPurpose.{decode_of, decoded_of, encode_of}
use Rattle.base64.specs.declared.decode.DecodeError.{DecodeError}
use Rattle.base64.proofs.EngineFacts.{IsAscii-encode_of}
use Rattle.uuid.specs.Text.{hyphenated_text, lower}
use Rattle.uuid.proofs.TextLemmas.{hyphenated_ascii}
use Rattle.function_identities.specs.Encodings.{text_of_bytes}

-- base64 and UUIDs are spelled in ASCII
pub encoded_characters : (bytes : List ℕ) → chars (encode_of standard bytes) ≡ encode_of standard bytes
encoded_characters bytes = chars-IsAscii (encode_of standard bytes) (IsAscii-encode_of standard bytes)

pub uuid_characters : (uuid : List ℕ) → chars (hyphenated_text lower uuid) ≡ hyphenated_text lower uuid
uuid_characters uuid = chars-IsAscii (hyphenated_text lower uuid) (hyphenated_ascii lower uuid (inl refl))

pub is_text : (bytes : List ℕ) → IsUtf8 bytes → text_of_bytes bytes ≡ Some (chars bytes)
is_text bytes u = rw (is_utf8-from_IsUtf8 bytes u) refl

pub no_text : (bytes : List ℕ) → (IsUtf8 bytes → false ≡ true) → ◌≡◌ {A = Option (List ℕ)} None (text_of_bytes bytes)
no_text bytes refused = elim (cases_Bool (is_utf8 bytes)) [
  | inl t ↦ absurd (true≢false (sym (refused (IsUtf8-from_is_utf8 bytes t))))
  | inr f ↦ rw f refl
]

pub decodes : (s bytes : List ℕ) → decode_of standard s ≡ Ok bytes → decoded_of standard s ≡ Some bytes
unfolding decoded_of
decodes s bytes e = ap result_ok e

pub decodes_not : (s : List ℕ) (error : DecodeError) → decode_of standard s ≡ Err error → decoded_of standard s ≡ None
unfolding decoded_of
decodes_not s error e = ap result_ok e
