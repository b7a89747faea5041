-- Words of ASCII characters: their bytes are their characters.
use Rattle.std.proofs.Common.{◌≡◌, ◌<◌, ℕ, zero, suc, Bool, true, nat_lt, List, [], ◌∷◌, chars, IsUtf8, refl, ap, ◌∙◌}
use Rattle.std.proofs.Common.{◌||◌, arith, lit<}
use Rattle.std.specs.List.{list_all, list_any}
use Rattle.std.specs.Str.{IsAscii}
use Rattle.std.proofs.lemmas.Str.{chars-IsAscii, IsUtf8-from_ascii}
use Rattle.foundation.proofs.TruthValues.{both}
use Rattle.foundation.proofs.Comparisons.{lt_of_true}

is_ascii : ℕ → Bool
is_ascii b = nat_lt b 128

below : (b : ℕ) → is_ascii b ≡ true → b < 128
unfolding is_ascii
below b e = lt_of_true b 128 e

at_each : (bs : List ℕ) → list_all is_ascii bs ≡ true → IsAscii bs
at_each [] e i = omega arith
at_each (b ∷ bs) e zero = below b (both (is_ascii b) (list_all is_ascii bs) e).0
at_each (b ∷ bs) e (suc i) = at_each bs (both (is_ascii b) (list_all is_ascii bs) e).1 i

-- bytes below 128 are ASCII, and UTF-8
pub ascii_word : (bs : List ℕ) → list_all (λ b. nat_lt b 128) bs ≡ true → IsAscii bs
unfolding is_ascii
ascii_word bs e = at_each bs e

pub utf8_word : (bs : List ℕ) → list_all (λ b. nat_lt b 128) bs ≡ true → IsUtf8 bs
utf8_word bs e = IsUtf8-from_ascii bs (ascii_word bs e)

-- a word of ASCII is its own characters
pub word : (bs : List ℕ) → list_all (λ b. nat_lt b 128) bs ≡ true → chars bs ≡ bs
word bs e = chars-IsAscii bs (ascii_word bs e)

-- a test of the characters of any of the words is a test of their bytes
pub any_word : (q : List ℕ → Bool) (ws : List (List ℕ)) → list_all (λ w. list_all (λ b. nat_lt b 128) w) ws ≡ true
    → list_any (λ w. q (chars w)) ws ≡ list_any q ws
any_word q [] e = refl
any_word q (w ∷ ws) e =
    let p = both (list_all (λ b. nat_lt b 128) w) (list_all (λ w. list_all (λ b. nat_lt b 128) w) ws) e in
    ap (λ x. q x || list_any (λ w. q (chars w)) ws) (word w p.0) ∙ ap (λ b. q w || b) (any_word q ws p.1)

-- one character below 128
pub one_ascii : (c : ℕ) → c < 128 → IsAscii (c ∷ [])
one_ascii c h zero = h
one_ascii c h (suc i) = lit< tt
