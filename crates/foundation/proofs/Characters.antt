-- Texts in UTF-8 that grow by a character.
use Rattle.std.proofs.Common.{◌≡◌, ℕ, List, [], ◌∷◌, ◌++◌, ap, sym, ◌∙◌, append-nil}
use Rattle.std.specs.Str.{chars, IsUtf8}
use Rattle.std.specs.Char.{IsScalar}
use Rattle.std.specs.Prelude.{encode_utf8}
use Rattle.std.proofs.lemmas.Str.{chars-append, chars_past_char, chars-nil, IsUtf8-encode}

-- the characters of a text with one character more
pub chars-push : (bs : List ℕ) (c : ℕ) → IsUtf8 bs → IsScalar c → chars (bs ++ encode_utf8 c) ≡ chars bs ++ c ∷ []
chars-push bs c u s =
    chars-append bs (encode_utf8 c) u
    ∙ ap (λ x. chars bs ++ x)
    (chars_past_char (encode_utf8 c) [] c (IsUtf8-encode c s) (sym (append-nil (encode_utf8 c)))
    ∙ ap (λ x. c ∷ x) chars-nil)
