-- Base64 back to texts.
use Rattle.std.proofs.Common.{◌≡◌, ◌<◌, ◌+◌, ◌++◌, ◌∙◌, ℕ, zero, suc, List, [], ◌∷◌, Bool, true, false, cond, ◌/◌}
use Rattle.std.proofs.Common.{◌%◌, Option, Some, None, option_map, option_and_then, Result, Ok, Err, chars}
use Rattle.std.proofs.Common.{encode_utf8_all, refl, sym, ap, subst, inl, inr, arith}
use Rattle.std.specs.Prelude.{if◌then◌else◌}
use Rattle.std.specs.Str.{all_scalars, is_utf8}
use Rattle.std.proofs.Math.Dec.{ltb}
use Rattle.std.proofs.Math.Utf8.{scalar, scalars, encode, scalar_cases}
use Rattle.std.proofs.lemmas.Bool.{ltb-true}
use Rattle.std.proofs.lemmas.Str.{chars-encodes, encodes-chars, encodes-IsAscii, IsUtf8-from_is_utf8, scalars-chars}
use Rattle.std.specs.Result.{result_ok}
use Rattle.base64.specs.declared.decode.DecodeError.{DecodeError}
use Rattle.base64.specs.Engines.{standard}
use Rattle.base64.specs.GeneralPurpose.{IsBytes, decode_of, decoded_of, encode_of}
use Rattle.base64.proofs.EngineFacts.{IsAscii-encode_of, decode_of-encode_of, decode_of_strict}
use Rattle.arm_value.specs.Json.{Json, text}
use Rattle.function_identities.specs.Encodings.{encoded, decoded, text_of_bytes, to_base64, base64_to_string}
use Rattle.function_identities.proofs.TextLemmas.{is_text, decodes, encoded_characters}
use Rattle.foundation.proofs.TruthValues.{both}

-- ---- the bytes of texts are below 256

one_more : (b : ℕ) (bs : List ℕ) → b < 256 → IsBytes bs → IsBytes (b ∷ bs)
one_more b bs h rest zero = h
one_more b bs h rest (suc i) = rest i

none : IsBytes []
none i = omega arith

joined : (xs ys : List ℕ) → IsBytes xs → IsBytes ys → IsBytes (xs ++ ys)
joined [] ys h k = k
joined (x ∷ xs) ys h k = one_more x (xs ++ ys) (h 0) (joined xs ys (λ i. h (suc i)) k)

chosen : (b : Bool) (xs ys : List ℕ) → (b ≡ true → IsBytes xs) → (b ≡ false → IsBytes ys) → IsBytes (cond b xs ys)
chosen true xs ys h k = h refl
chosen false xs ys h k = k refl

bound : (c : ℕ) → scalar c ≡ true → c < 1114112
bound c s = elim (scalar_cases c s) [ inl low ↦ omega arith | inr high ↦ high.1 ]

two : (a b : ℕ) → a < 256 → b < 256 → IsBytes (a ∷ b ∷ [])
two a b h k = one_more a (b ∷ []) h (one_more b [] k none)

three : (a b c : ℕ) → a < 256 → b < 256 → c < 256 → IsBytes (a ∷ b ∷ c ∷ [])
three a b c h k l = one_more a (b ∷ c ∷ []) h (two b c k l)

four : (a b c d : ℕ) → a < 256 → b < 256 → c < 256 → d < 256 → IsBytes (a ∷ b ∷ c ∷ d ∷ [])
four a b c d h k l m = one_more a (b ∷ c ∷ d ∷ []) h (three b c d k l m)

character_bytes : (c : ℕ) → c < 1114112 → IsBytes (encode c)
unfolding encode
character_bytes c h =
    let last : 128 + c % 64 < 256 = omega arith in
    let second : 128 + c / 64 % 64 < 256 = omega arith in
    let third : 128 + c / 4096 % 64 < 256 = omega arith in
    chosen (ltb c 128) _ _ (λ e. let l = ltb-true c 128 e in one_more c [] (omega arith) none)
    (λ _. chosen (ltb c 2048) _ _ (λ e. let l = ltb-true c 2048 e in
    two (192 + c / 64) (128 + c % 64) (omega arith) last)
    (λ _. chosen (ltb c 65536) _ _ (λ e. let l = ltb-true c 65536 e in
    three (224 + c / 4096) (128 + c / 64 % 64) (128 + c % 64) (omega arith) second last)
    (λ _. four (240 + c / 262144) (128 + c / 4096 % 64) (128 + c / 64 % 64) (128 + c % 64) (omega arith) third second
    last)))

text_bytes : (s : List ℕ) → all_scalars s ≡ true → IsBytes (encode_utf8_all s)
text_bytes [] h = none
text_bytes (c ∷ s) h =
    let parts = both (scalar c) (all_scalars s) h in
    joined (encode c) (encode_utf8_all s) (character_bytes c (bound c parts.0)) (text_bytes s parts.1)

-- ---- the laws

encoded_bytes : (t : List ℕ) → encode_utf8_all (encoded t) ≡ encoded t
encoded_bytes t = encodes-IsAscii (encoded t) (IsAscii-encode_of standard (encode_utf8_all t))

decoded_encoded : (t : List ℕ) → all_scalars t ≡ true → decoded (encoded t) ≡ Some t
decoded_encoded t h =
    let bytes = encode_utf8_all t in
    let read : decoded_of standard (encode_utf8_all (encoded t)) ≡ Some bytes =
    ap (decoded_of standard) (encoded_bytes t)
    ∙ decodes (encoded t) bytes (decode_of-encode_of standard bytes refl (text_bytes t h)) in
    ap (option_and_then text_of_bytes) read ∙ is_text bytes (t, (h, refl)) ∙ ap Some (chars-encodes t h)

pub back : (t : List ℕ) → all_scalars t ≡ true
    → option_and_then (λ s. base64_to_string (s ∷ [])) (to_base64 (text t ∷ [])) ≡ Some (text t)
back t h = ap (option_map text) (decoded_encoded t h)

-- ---- and the other way

text_given : (o : Option (List ℕ)) (j : Json) → option_map text o ≡ Some j → (t : List ℕ) × (o ≡ Some t) × (j ≡ text t)
text_given None j e = absurd (cc e)
text_given (Some t) j e = (t, refl, cc e)

bytes_read : (o : Option (List ℕ)) (t : List ℕ) → option_and_then text_of_bytes o ≡ Some t → (bytes : List ℕ)
    × (o ≡ Some bytes) × (text_of_bytes bytes ≡ Some t)
bytes_read None t e = absurd (cc e)
bytes_read (Some bytes) t e = (bytes, refl, e)

text_by : (b : Bool) (cs t : List ℕ) → ◌≡◌ {A = Option (List ℕ)} (if b then Some cs else None) (Some t) → (b ≡ true)
    × (cs ≡ t)
text_by true cs t e = (refl, cc e)
text_by false cs t e = absurd (cc e)

is_ok : (r : Result (List ℕ) DecodeError) (bytes : List ℕ) → result_ok r ≡ Some bytes → r ≡ Ok bytes
is_ok (Ok b) bytes e = cc e
is_ok (Err x) bytes e = absurd (cc e)

decoded_ok : (s bytes : List ℕ) → decoded_of standard s ≡ Some bytes → decode_of standard s ≡ Ok bytes
unfolding decoded_of
decoded_ok s bytes e = is_ok (decode_of standard s) bytes e

encoded_decoded : (s t : List ℕ) → all_scalars s ≡ true → decoded s ≡ Some t → (all_scalars t ≡ true) × (encoded t ≡ s)
encoded_decoded s t h e =
    let found = bytes_read (decoded_of standard (encode_utf8_all s)) t e in
    let bytes = found.0 in
    let read = text_by (is_utf8 bytes) (chars bytes) t found.2 in
    let spelled : bytes ≡ encode_utf8_all t = sym (encodes-chars bytes (IsUtf8-from_is_utf8 bytes read.0))
    ∙ ap encode_utf8_all read.1 in
    let strict : encode_utf8_all s ≡ encode_of standard bytes =
    decode_of_strict standard (encode_utf8_all s) bytes (refl, refl) (text_bytes s h)
    (decoded_ok (encode_utf8_all s) bytes found.1) in
    let scalars_read : all_scalars t ≡ true =
    subst (λ cs. all_scalars cs ≡ true) read.1 (scalars-chars bytes (IsUtf8-from_is_utf8 bytes read.0)) in (
      scalars_read,
      sym (sym (chars-encodes s h) ∙ ap chars (strict ∙ ap (encode_of standard) spelled)
          ∙ encoded_characters (encode_utf8_all t)),
    )

pub alone : (s : List ℕ) (j : Json) → all_scalars s ≡ true → base64_to_string (text s ∷ []) ≡ Some j → (t : List ℕ)
    × (all_scalars t ≡ true) × (j ≡ text t) × (to_base64 (text t ∷ []) ≡ Some (text s))
alone s j h e =
    let given = text_given (decoded s) j e in
    let found = encoded_decoded s given.0 h given.1 in
    (given.0, found.0, given.2, ap (λ (r : List ℕ). Some (text r)) found.1)
