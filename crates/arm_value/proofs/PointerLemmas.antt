-- Names in pointers, one character after another.
use Rattle.std.proofs.Common.{◌≡◌, ◌∙◌, ℕ, List, [], ◌∷◌, ◌++◌, encode_utf8_all, chars, IsUtf8, map, refl, sym, ap}
use Rattle.std.proofs.Common.{append_assoc}
use Rattle.std.proofs.lemmas.List.{append-nil}
use Rattle.std.proofs.lemmas.Str.{encodes-append, encodes-chars, encodes_same}
use Rattle.foundation.proofs.Lists.{same_map}
use lib.Utf8.{encode}
use Rattle.arm_value.specs.Pointer.{token, token_character, step}

token-last : (cs : List ℕ) (c : ℕ) → token (cs ++ c ∷ []) ≡ token cs ++ token_character c
token-last [] c = append-nil (token_character c)
token-last (d ∷ cs) c = ap (λ r. token_character d ++ r) (token-last cs c)
    ∙ sym (append_assoc (token_character d) (token cs) (token_character c))

pub token-push : (cs : List ℕ) (c : ℕ) → encode_utf8_all (token cs) ++ encode_utf8_all (token_character c)
    ≡ encode_utf8_all (token (cs ++ c ∷ []))
token-push cs c = sym (encodes-append (token cs) (token_character c)) ∙ ap encode_utf8_all (sym (token-last cs c))

pub whole_name : (bytes yielded all : List ℕ) → map (λ x. x) yielded ≡ all → bytes ≡ encode_utf8_all (token yielded)
    → bytes ≡ encode_utf8_all (token all)
whole_name bytes yielded all e b = b ∙ ap (λ cs. encode_utf8_all (token cs)) (sym (same_map yielded) ∙ e)

-- texts with the same bytes are the same
pub text_is : (text bytes wanted : List ℕ) → encode_utf8_all text ≡ bytes → bytes ≡ encode_utf8_all wanted
    → text ≡ wanted
text_is text bytes wanted e w = encodes_same text wanted (e ∙ w)

pub below_bytes : (above spelled a s : List ℕ) → IsUtf8 s → a ≡ encode_utf8_all above
    → a ++ 47 ∷ s ≡ encode_utf8_all (above ++ step (chars s))
unfolding encode
below_bytes above spelled a s u e =
    sym (encodes-append above (47 ∷ chars s) ∙ (λ i. sym e i ++ 47 ∷ encodes-chars s u i))
