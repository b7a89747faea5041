-- Texts of the form `n[i]`.
use Rattle.std.proofs.Common.{◌≡◌, ◌≢◌, ◌<◌, ◌+◌, ◌^◌, ℕ, Bool, true, false, List, [], ◌∷◌, ◌++◌, length}
use Rattle.std.proofs.Common.{get_or, drop, take, ◌-◌, Option, Some, None, bytes_eq, chars, codes, IsUtf8, decimal}
use Rattle.std.proofs.Common.{refl, sym, ap}
use Rattle.std.proofs.Common.{◌∙◌, lit<, arith}
use Rattle.std.specs.Str.{IsAscii}
use Rattle.std.specs.Str.Pattern.{FindsTextSuffix}
use lib.Utf8.{encodes}
use Rattle.std.proofs.lemmas.List.{drop_all, length_push, append_cancel_right}
use Rattle.std.proofs.lemmas.Str.{chars-append, chars-IsAscii, IsAscii-append, encodes-append, encodes-chars}
use Rattle.std.proofs.lemmas.Str.{IsUtf8-from_ascii}
use Rattle.std.proofs.lemmas.Fmt.{IsAscii-decimal}
use Rattle.std.proofs.lemmas.Slice.Eq.{bytes_eq-Decides}
use Rattle.foundation.proofs.Lists.{next_item}
use Rattle.foundation.proofs.AsciiWords.{one_ascii}
use Rattle.foundation.proofs.TruthValues.{both_ways, unless}
use Rattle.arm_eval.specs.Titles.{grown, number_from, element}

-- ---- the number in the brackets of a text, character by character

pub number_turn : (cs ys : List ℕ) (c : ℕ) (n : Option ℕ)
    → (length ys < length cs) × (c ≡ get_or cs (length ys) c)
    → number_from None cs ≡ number_from n (drop (length ys) cs)
    → number_from None cs ≡ number_from (grown n c) (drop (length (ys ++ c ∷ [])) cs)
number_turn cs ys c n t e =
    let long : length (ys ++ c ∷ []) ≡ length ys + 1 = length_push ys c in
    e ∙ ap (number_from n) (next_item cs (length ys) c t.0 t.1)
    ∙ ap (λ k. number_from (grown n c) (drop k cs)) (sym long)

pub number_end : (cs ys : List ℕ) (n : Option ℕ) → length ys ≡ length cs
    → number_from None cs ≡ number_from n (drop (length ys) cs) → n ≡ number_from None cs
number_end cs ys n l e = sym (e ∙ ap (number_from n) (drop_all (length ys) cs (omega (arith, l))))

-- ---- the part before the brackets

abbrev index : ℕ → List ℕ
index i = codes "[" ++ (decimal i ++ codes "]")

in_brackets : (i : ℕ) → i < 2 ^ 64 → IsAscii (index i)
in_brackets i h =
    IsAscii-append (codes "[") (decimal i ++ codes "]") (one_ascii 91 (lit< tt))
    (IsAscii-append (decimal i) (codes "]") (IsAscii-decimal i h) (one_ascii 93 (lit< tt)))

-- a text that ends in these bytes is what comes before them, and they
pub ends_so : (s n m base : List ℕ) (k : ℕ) → FindsTextSuffix n s (Some k) → base ≡ take (length s - k) s → n ≡ m
    → s ≡ base ++ m
ends_so s n m base k h e g = h.1 ∙ ap (λ y. y ++ n) (sym e) ∙ ap (λ y. base ++ y) g

pub base_is : (text bytes base own : List ℕ) (i : ℕ) → i < 2 ^ 64 → chars bytes ≡ text → bytes ≡ base ++ index i
    → IsUtf8 base → own ≡ chars base → (x : List ℕ) → bytes_eq text (element x i) ≡ bytes_eq own x
base_is text bytes base own i h e k u g x =
    both_ways (bytes_eq text (element x i)) (bytes_eq (chars base) x)
    (λ b. (bytes_eq-Decides (chars base) x).1
    (append_cancel_right (chars base) x (index i) (sym written ∙ (bytes_eq-Decides text (element x i)).0 b)))
    (λ b. (bytes_eq-Decides text (element x i)).1
    (written ∙ ap (λ y. y ++ index i) ((bytes_eq-Decides (chars base) x).0 b)))
    ∙ ap (λ y. bytes_eq y x) (sym g)
  where
    written : text ≡ chars base ++ index i
    written =
        sym e ∙ ap chars k ∙ chars-append base (index i) u
        ∙ ap (λ r. chars base ++ r) (chars-IsAscii (index i) (in_brackets i h))

pub no_base : (text bytes n : List ℕ) (i : ℕ) → i < 2 ^ 64 → bytes ≡ encodes text → n ≡ index i
    → ((front : List ℕ) → bytes ≢ front ++ n) → (x : List ℕ) → bytes_eq text (element x i) ≡ false
no_base text bytes n i h e g missing x =
    unless (bytes_eq text (element x i)) (λ b. missing (encodes x) (written b))
  where
    same : encodes (index i) ≡ n
    same =
        ap encodes (sym (chars-IsAscii (index i) (in_brackets i h)))
        ∙ encodes-chars (index i) (IsUtf8-from_ascii (index i) (in_brackets i h)) ∙ sym g

    written : bytes_eq text (element x i) ≡ true → bytes ≡ encodes x ++ n
    written b =
        e ∙ ap encodes ((bytes_eq-Decides text (element x i)).0 b) ∙ encodes-append x (index i)
        ∙ ap (λ r. encodes x ++ r) same
