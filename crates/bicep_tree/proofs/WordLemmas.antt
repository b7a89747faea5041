-- A text is a word of ASCII exactly where its characters are.
use Rattle.std.proofs.Common.{◌≡◌, ℕ, true, nat_lt, List, chars, IsUtf8, bytes_eq, ap, ◌∙◌}
use Rattle.std.specs.List.{list_all}
use Rattle.arm_value.proofs.TextLemmas.{bytes_eq-chars}
use Rattle.foundation.proofs.AsciiWords.{word, utf8_word}

pub is_word : (text w : List ℕ) → IsUtf8 text → list_all (λ b. nat_lt b 128) w ≡ true
    → bytes_eq text w ≡ bytes_eq (chars text) w
is_word text w u e = bytes_eq-chars text w u (utf8_word w e) ∙ ap (bytes_eq (chars text)) (word w e)
