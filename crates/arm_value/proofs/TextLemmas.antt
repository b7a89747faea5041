-- Texts as characters and as bytes.
use Rattle.std.proofs.Common.{◌≡◌, ◌≤◌, ◌<◌, ℕ, suc, length, get_or, Bool, true, false, nat_lt, List, [], ◌∷◌, ◌++◌, eqb, ne_eqb}
use Rattle.std.proofs.Common.{chars, IsUtf8, bytes_eq, refl, sym, ap, ◌∙◌, arith, append-nil, ◌⊎◌, inl, inr, ap₂}
use lib.Utf8.{encode, encodes}
use Rattle.std.specs.Char.{to_ascii_lowercase}
use Rattle.std.proofs.lemmas.Str.{encodes-chars, encodes_same, encode_ascii, inside_one, length-le-encodes}
use Rattle.std.proofs.lemmas.Slice.Eq.{bytes_eq-Decides}
use Rattle.std.proofs.lemmas.Bool.Decides.{nat_tests}
use Rattle.arm_value.specs.Look.{fold, is_same_folded, is_empty}
use Rattle.foundation.proofs.TruthValues.{both_ways}
use Rattle.std.specs.List.{list_all}
use Rattle.foundation.proofs.AsciiWords.{utf8_word, word}

-- a text is empty where its bytes are none
pub empty_by_bytes : (cs bs : List ℕ) → bs ≡ encodes cs → eqb (length bs) 0 ≡ is_empty cs
empty_by_bytes [] bs e = rw e refl
empty_by_bytes (c ∷ cs) bs e =
    ne_eqb (length bs) 0 (λ none. let long : suc (length cs) ≤ length (encodes (c ∷ cs)) = length-le-encodes (c ∷ cs)
    in omega (arith, ap length e, long, none))

chars_same : (a b : List ℕ) → IsUtf8 a → IsUtf8 b → chars a ≡ chars b → a ≡ b
chars_same a b u v e = sym (encodes-chars a u) ∙ ap encodes e ∙ encodes-chars b v

-- two texts are equal where their characters are
pub bytes_eq-chars : (a b : List ℕ) → IsUtf8 a → IsUtf8 b → bytes_eq a b ≡ bytes_eq (chars a) (chars b)
bytes_eq-chars a b u v =
    both_ways _ _ (λ e. (bytes_eq-Decides (chars a) (chars b)).1 (ap chars ((bytes_eq-Decides a b).0 e)))
    (λ e. (bytes_eq-Decides a b).1 (chars_same a b u v ((bytes_eq-Decides (chars a) (chars b)).0 e)))

lower_high : (c : ℕ) → 128 ≤ c → to_ascii_lowercase c ≡ c
lower_high c h = grind (arith, nat_tests)

lower_low : (c : ℕ) → c < 128 → to_ascii_lowercase c < 128
lower_low c h = grind (arith, nat_tests)

fold_high : (xs : List ℕ) → ((k : ℕ) → k < length xs → 128 ≤ get_or xs k 0) → fold xs ≡ xs
fold_high [] h = refl
fold_high (x ∷ xs) h = λ i. lower_high x (h 0 (omega arith)) i ∷ fold_high xs (λ k l. h (suc k) (omega arith)) i

above : (a b : ℕ) → (a < b → ⊥) → b ≤ a
above a b h = omega (arith, h)

high_bytes : (c : ℕ) → 128 ≤ c → (k : ℕ) → k < length (encode c) → 128 ≤ get_or (encode c) k 0
high_bytes c h k l =
    above _ _ (λ low. let same : c ≡ get_or (encode c) k 0 =
    inside_one c [] (encode c) k (sym (append-nil (encode c))) l low in omega arith)

fold-encode_by : (c : ℕ) → (c < 128) ⊎ (128 ≤ c) → fold (encode c) ≡ encode (to_ascii_lowercase c)
fold-encode_by c (inl low) = ap fold (encode_ascii c low) ∙ sym (encode_ascii (to_ascii_lowercase c) (lower_low c low))
fold-encode_by c (inr high) = fold_high (encode c) (high_bytes c high) ∙ ap encode (sym (lower_high c high))

split : (c : ℕ) → (c < 128) ⊎ (128 ≤ c)
split c = split_by c (nat_lt c 128) refl
  where
    split_by : (c : ℕ) (b : Bool) → nat_lt c 128 ≡ b → (c < 128) ⊎ (128 ≤ c)
    split_by c true e = inl (grind (arith, nat_tests))
    split_by c false e = inr (grind (arith, nat_tests))

fold-append : (xs ys : List ℕ) → fold (xs ++ ys) ≡ fold xs ++ fold ys
fold-append [] ys = refl
fold-append (x ∷ xs) ys = ap (λ r. to_ascii_lowercase x ∷ r) (fold-append xs ys)

-- folding the bytes of a text folds its characters
pub fold-encodes : (cs : List ℕ) → fold (encodes cs) ≡ encodes (fold cs)
fold-encodes [] = refl
fold-encodes (c ∷ cs) = fold-append (encode c) (encodes cs) ∙ (λ i. fold-encode_by c (split c) i ++ fold-encodes cs i)

pub fold-chars : (a : List ℕ) → IsUtf8 a → fold a ≡ encodes (fold (chars a))
fold-chars a u = ap fold (sym (encodes-chars a u)) ∙ fold-encodes (chars a)

pub folded_to_chars : (a b : List ℕ) → IsUtf8 a → IsUtf8 b → fold a ≡ fold b → fold (chars a) ≡ fold (chars b)
folded_to_chars a b u v e = encodes_same _ _ (sym (fold-chars a u) ∙ e ∙ fold-chars b v)

pub folded_from_chars : (a b : List ℕ) → IsUtf8 a → IsUtf8 b → fold (chars a) ≡ fold (chars b) → fold a ≡ fold b
folded_from_chars a b u v e = fold-chars a u ∙ ap encodes e ∙ sym (fold-chars b v)

-- a test that decides whether two texts are equal folded
pub is_folded : (r : Bool) (a b : List ℕ) → (r ≡ true → fold a ≡ fold b) → (fold a ≡ fold b → r ≡ true)
    → r ≡ is_same_folded a b
is_folded r a b f g =
    both_ways _ _ (λ e. (bytes_eq-Decides (fold a) (fold b)).1 (f e))
    (λ e. g ((bytes_eq-Decides (fold a) (fold b)).0 e))

pub same_bytes : (bytes text w : List ℕ) → IsUtf8 bytes → chars bytes ≡ text → list_all (λ b. nat_lt b 128) w ≡ true
    → bytes_eq bytes w ≡ bytes_eq text w
same_bytes bytes text w u e a = bytes_eq-chars bytes w u (utf8_word w a) ∙ ap₂ bytes_eq e (word w a)
