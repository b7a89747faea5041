-- Words by their first bytes, and options by their first `=`.
use Rattle.std.proofs.Common.{◌≡◌, ◌≢◌, ◌<◌, ◌==◌, ℕ, Bool, List, [], ◌∷◌, length, true, false, refl, ap, arith}
use Rattle.std.proofs.lemmas.Bool.Decides.{nat_tests}
use Rattle.std.specs.Prelude.{nat_lt}
use Rattle.std.specs.List.{before_first, after_first, position_or_len}
use Rattle.command_words.specs.Words.{AnOption, NoSign, valued, option_of, dashed, value_of, word_of, is_equals}

pub no_dash : (bs : List ℕ) → ((rest : List ℕ) → bs ≢ 45 ∷ rest) → word_of bs ≡ value_of bs
unfolding word_of value_of
no_dash [] h = refl
no_dash (b ∷ bs) h = by (b == 45) refl
  where
    by : (t : Bool) → (b == 45) ≡ t → word_of (b ∷ bs) ≡ value_of (b ∷ bs)
    by true e = let is : b ≡ 45 = grind (arith, nat_tests) in absurd (h bs (ap (λ c. c ∷ bs) is))
    by false e = rw e refl

pub one_dash : (bs rest : List ℕ) → bs ≡ 45 ∷ rest → word_of bs ≡ dashed rest
unfolding word_of
one_dash bs rest e = rw e refl

pub no_second : (bs : List ℕ) → ((rest : List ℕ) → bs ≢ 45 ∷ rest) → dashed bs ≡ NoSign
unfolding dashed
no_second [] h = refl
no_second (b ∷ bs) h = by (b == 45) refl
  where
    by : (t : Bool) → (b == 45) ≡ t → dashed (b ∷ bs) ≡ NoSign
    by true e = let is : b ≡ 45 = grind (arith, nat_tests) in absurd (h bs (ap (λ c. c ∷ bs) is))
    by false e = rw e refl

pub two_dashes : (bs rest : List ℕ) → bs ≡ 45 ∷ rest → dashed bs ≡ option_of rest
unfolding dashed
two_dashes bs rest e = rw e refl

pub no_equals : (bs : List ℕ) → position_or_len is_equals bs ≡ length bs → option_of bs ≡ AnOption bs
unfolding option_of
no_equals bs e =
    let no : nat_lt (position_or_len is_equals bs) (length bs) ≡ false = grind (arith, nat_tests) in rw no refl

pub at_equals : (bs name value : List ℕ) → position_or_len is_equals bs < length bs
    → name ≡ before_first is_equals bs → value ≡ after_first is_equals bs → option_of bs ≡ valued name value
unfolding option_of
at_equals bs name value l n v =
    let yes : nat_lt (position_or_len is_equals bs) (length bs) ≡ true = grind (arith, nat_tests) in rw (yes, n, v) refl
