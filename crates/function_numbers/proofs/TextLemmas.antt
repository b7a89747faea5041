-- Characters and digits.
use Rattle.std.proofs.Common.{◌≡◌, ℕ, suc, ◌+◌, ◌*◌, ◌-◌, ◌^◌, ◌<◌, ◌≤◌, Bool, true, false, Option, Some, None}
use Rattle.std.proofs.Common.{option_and_then, nat_lt, List, [], ◌∷◌, ◌++◌, length, get_or, drop, IsUtf8, refl, ap}
use Rattle.std.proofs.Common.{sym, ◌∙◌, arith, add-one}
use Rattle.std.specs.Str.{chars}
use Rattle.std.specs.Prelude.{◌==◌, if◌then◌else◌}
use Rattle.std.proofs.Math.Seq.{drop-cons}
use Rattle.std.proofs.lemmas.List.{drop_all, length_push}
use Rattle.std.proofs.lemmas.Bool.Decides.{nat_tests}
use Rattle.std.proofs.lemmas.Str.{encodes-chars, chars-nil}
use lib.Utf8.{encodes}
use Rattle.function_numbers.specs.Numbers.{is_digit, with_digit, read_on, small, numeral, after_minus}
use Rattle.foundation.proofs.Lists.{next_item}

some_characters : (b : ℕ) (bs cs : List ℕ) → encodes cs ≡ b ∷ bs → false ≡ (length cs == 0)
some_characters b bs [] e = absurd (cc)
some_characters b bs (c ∷ cs) e = grind (arith, nat_tests)

not_zero : (n : ℕ) → (suc n == 0) ≡ false
not_zero n = grind (arith, nat_tests)

-- a text has no character exactly where it has no byte
pub is_empty_chars : (bs : List ℕ) → IsUtf8 bs → (length bs == 0) ≡ (length (chars bs) == 0)
is_empty_chars [] u = sym (ap (λ (cs : List ℕ). length cs == 0) chars-nil)
is_empty_chars (b ∷ bs) u = not_zero (length bs) ∙ some_characters b bs (chars (b ∷ bs)) (encodes-chars (b ∷ bs) u)

pub no_numeral : (cs : List ℕ) → (length cs == 0) ≡ true → None ≡ option_and_then small (numeral cs)
no_numeral cs e = rw e refl

pub is_numeral : (cs : List ℕ) → (length cs == 0) ≡ false → numeral cs ≡ read_on 0 cs
is_numeral cs e = rw e refl

read_on-cons : (n c : ℕ) (cs : List ℕ) → read_on n (c ∷ cs) ≡ option_and_then (λ m. read_on m cs) (with_digit n c)
unfolding read_on
read_on-cons n c cs = refl

read_on-nil : (n : ℕ) → read_on n [] ≡ Some n
unfolding read_on
read_on-nil n = refl

small_by : (b : Bool) (n m : ℕ) → Some m ≡ (if b then Some n else None) → m ≡ n
small_by true n m e = cc
small_by false n m e = absurd (cc)

small_is : (n m : ℕ) → Some m ≡ small n → m ≡ n
small_is n m e = small_by (nat_lt n (2 ^ 64)) n m e

fits_by : (b : Bool) (n : ℕ) → nat_lt n (2 ^ 64) ≡ b → None ≡ (if b then Some n else None) → 2 ^ 64 ≤ n
fits_by true n t e = absurd (cc)
fits_by false n t e = grind (arith, nat_tests)

not_small : (n : ℕ) → None ≡ small n → 2 ^ 64 ≤ n
not_small n e = fits_by (nat_lt n (2 ^ 64)) n refl e

large : (n : ℕ) → 2 ^ 64 ≤ n → small n ≡ None
large n h = let t : nat_lt n (2 ^ 64) ≡ false = grind (arith, nat_tests) in rw t refl

too_big_by : (b : Bool) (m : ℕ) (cs : List ℕ) → option_and_then small (read_on m cs) ≡ None
    → option_and_then small (option_and_then (λ k. read_on k cs) (if b then Some m else None)) ≡ None
too_big_by true m cs h = h
too_big_by false m cs h = refl

too_big : (n : ℕ) (cs : List ℕ) → 2 ^ 64 ≤ n → option_and_then small (read_on n cs) ≡ None
too_big n [] h = ap (option_and_then small) (read_on-nil n) ∙ large n h
too_big n (c ∷ cs) h = ap (option_and_then small) (read_on-cons n c cs)
    ∙ too_big_by (is_digit c) (n * 10 + (c - 48)) cs (too_big (n * 10 + (c - 48)) cs (omega arith))

small_stays : (o : Option ℕ) (m : ℕ) → Some m ≡ option_and_then small o → small m ≡ Some m
small_stays None m e = absurd (cc)
small_stays (Some k) m e = rw (small_is k m e) (sym e ∙ ap Some (small_is k m e))

digit_by : (o : Option ℕ) (m : ℕ) (cs : List ℕ) → Some m ≡ option_and_then small o
    → option_and_then (λ k. read_on k cs) o ≡ read_on m cs
digit_by None m cs e = absurd (cc)
digit_by (Some k) m cs e = ap (λ x. read_on x cs) (sym (small_is k m e))

no_digit_by : (o : Option ℕ) (cs : List ℕ) → None ≡ option_and_then small o
    → option_and_then small (option_and_then (λ k. read_on k cs) o) ≡ None
no_digit_by None cs e = refl
no_digit_by (Some k) cs e = too_big k cs (not_small k e)

-- one more digit
pub read_more : (n m c : ℕ) (cs ys : List ℕ) (all : Option ℕ) → (length ys < length cs)
    × (c ≡ get_or cs (length ys) c) → Some m ≡ option_and_then small (with_digit n c)
    → (read_on n (drop (length ys) cs) ≡ all) × (small n ≡ Some n)
    → (read_on m (drop (length (ys ++ c ∷ [])) cs) ≡ all) × (small m ≡ Some m)
read_more n m c cs ys all t d before = (
  rw (length_push ys c)
      (sym (read_on-cons n c (drop (length ys + 1) cs) ∙ digit_by (with_digit n c) m (drop (length ys + 1) cs) d)
      ∙ ap (read_on n) (sym (next_item cs (length ys) c t.0 t.1)) ∙ before.0),
  small_stays (with_digit n c) m d,
)

-- no digit, or more than fits
pub read_fails : (n c : ℕ) (cs ys : List ℕ) → (length cs == 0) ≡ false → (length ys < length cs)
    × (c ≡ get_or cs (length ys) c) → None ≡ option_and_then small (with_digit n c)
    → read_on n (drop (length ys) cs) ≡ read_on 0 cs
    → None ≡ option_and_then small (numeral cs)
read_fails n c cs ys some t d before =
    sym (ap (option_and_then small) (is_numeral cs some ∙ sym before
    ∙ ap (read_on n) (next_item cs (length ys) c t.0 t.1) ∙ read_on-cons n c (drop (length ys + 1) cs))
    ∙ no_digit_by (with_digit n c) (drop (length ys + 1) cs) d)

pub read_ends : (n : ℕ) (cs ys : List ℕ) → (length cs == 0) ≡ false → length ys ≡ length cs
    → (read_on n (drop (length ys) cs) ≡ read_on 0 cs) × (small n ≡ Some n)
    → Some n ≡ option_and_then small (numeral cs)
read_ends n cs ys some l before =
    sym (ap (option_and_then small) (is_numeral cs some ∙ sym before.0
    ∙ ap (read_on n) (drop_all (length ys) cs (omega arith)) ∙ read_on-nil n) ∙ before.1)

pub is_after_minus : (cs rest : List ℕ) (c : ℕ) → cs ≡ c ∷ rest → c ≡ 45 → Some rest ≡ after_minus cs
is_after_minus cs rest c e m = let t : (c == 45) ≡ true = grind (arith, nat_tests) in rw (e, t) refl
