-- Texts as their characters.
use Rattle.std.proofs.Common.{◌≡◌, ℕ, zero, suc, ◌+◌, ◌-◌, ◌<◌, ◌≤◌, ◌++◌, List, [], ◌∷◌, take, drop, length}
use Rattle.std.proofs.Common.{refl, ap, sym, ◌∙◌, subst, arith, append_assoc, append-nil, encode_utf8}
use Rattle.std.proofs.Math.Seq.{take-append_seam, drop-append_seam}
use Rattle.std.specs.Prelude.{encode_utf8_all}
use Rattle.std.specs.Str.{chars, IsUtf8, IsCharBoundary}
use Rattle.std.specs.Char.{IsScalar}
use Rattle.std.proofs.lemmas.List.{length-append, take-append-drop}
use Rattle.std.proofs.lemmas.Str.{chars_past_char, chars-nil, chars_from_encodes, encodes-chars}
use Rattle.std.proofs.lemmas.Str.{encodes-append, IsUtf8-encode, IsUtf8-take, IsCharBoundary-at_seam}
use Rattle.foundation.proofs.Characters.{chars-push}

pub ruleset characters = (chars-nil, append-nil, append_assoc)

drop_of_nothing : (n : ℕ) → drop {A = ℕ} n [] ≡ []
drop_of_nothing zero = refl
drop_of_nothing (suc n) = refl

-- one character was read, and one fewer is to be left out
pub past_one : (bs rest all : List ℕ) (c left : ℕ) → IsUtf8 bs → bs ≡ encode_utf8 c ++ rest → 0 < left
    → drop left (chars bs) ≡ all → drop (left - 1) (chars rest) ≡ all
past_one bs rest all c zero u e some d = absurd (omega arith)
past_one bs rest all c (suc k) u e some d =
    let one : suc k - 1 ≡ k = omega arith in
    ap (λ m. drop m (chars rest)) one ∙ sym (ap (drop (suc k)) (chars_past_char bs rest c u e)) ∙ d

-- the text ended
pub at_end : (bs all : List ℕ) (left : ℕ) → length bs ≡ 0 → drop left (chars bs) ≡ all → chars bs ≡ all
at_end [] all left e d = chars-nil ∙ sym (drop_of_nothing left) ∙ sym (ap (drop left) chars-nil) ∙ d
at_end (b ∷ bs) all left e d = absurd (omega (arith, e))

-- a text is so many characters at its front, and then the rest
module _ (bs rest : List ℕ) (n : ℕ) (u : IsUtf8 bs) (v : IsUtf8 rest) (e : chars rest ≡ drop n (chars bs)) where
  front : List ℕ
  front = encode_utf8_all (take n (chars bs))

  seam : bs ≡ front ++ rest
  unfolding front
  seam =
      sym (encodes-chars bs u) ∙ ap encode_utf8_all (sym (take-append-drop n (chars bs)))
      ∙ encodes-append (take n (chars bs)) (drop n (chars bs))
      ∙ ap (λ l. front ++ l) (ap encode_utf8_all (sym e) ∙ encodes-chars rest v)

  lengths : length bs ≡ length front + length rest
  lengths = ap length seam ∙ length-append front rest

  pub rest_fits : length rest ≤ length bs
  rest_fits = omega (arith, lengths)

  width : length front ≡ length bs - length rest
  width = omega (arith, lengths)

  pub front_ends : IsCharBoundary bs (length bs - length rest)
  front_ends = subst (IsCharBoundary bs) width (IsCharBoundary-at_seam bs front rest seam v)

  pub front_alone : chars (take (length bs - length rest) bs) ≡ take n (chars bs)
  unfolding front
  front_alone =
      sym (chars_from_encodes (take n (chars bs)) (take (length bs - length rest) bs)
      (IsUtf8-take bs (length bs - length rest) u front_ends)
      (sym (ap (λ k. take k bs) (sym width) ∙ ap (take (length front)) seam ∙ take-append_seam front rest)))

-- a text without characters has no last one
pub no_last : (bs : List ℕ) → length bs ≡ 0 → chars bs ≡ drop (length (chars bs) - 1) (chars bs)
no_last [] e = chars-nil ∙ sym (ap (λ l. drop (length l - 1) l) chars-nil)
no_last (b ∷ bs) e = absurd (omega (arith, e))

-- a text whose last character is c
module _ (bs front : List ℕ) (c : ℕ) (u : IsUtf8 front) (s : IsScalar c) (e : bs ≡ front ++ encode_utf8 c) where
  pub last_begins : IsCharBoundary bs (length front)
  last_begins = IsCharBoundary-at_seam bs front (encode_utf8 c) e (IsUtf8-encode c s)

  alone : (xs : List ℕ) → drop (length (xs ++ c ∷ []) - 1) (xs ++ c ∷ []) ≡ c ∷ []
  alone xs =
      let one : length (xs ++ c ∷ []) - 1 ≡ length xs = omega (arith, length-append xs (c ∷ [])) in
      ap (λ k. drop k (xs ++ c ∷ [])) one ∙ drop-append_seam xs (c ∷ [])

  pub last_alone : chars (drop (length front) bs) ≡ drop (length (chars bs) - 1) (chars bs)
  last_alone =
      ap chars (ap (drop (length front)) e ∙ drop-append_seam front (encode_utf8 c))
      ∙ chars_past_char (encode_utf8 c) [] c (IsUtf8-encode c s) (sym (append-nil (encode_utf8 c)))
      ∙ ap (λ l. c ∷ l) chars-nil ∙ sym (alone (chars front))
      ∙ sym (ap (λ l. drop (length l - 1) l) (ap chars e ∙ chars-push front c u s))
