-- What `format` makes of the text for an interpolated one.
use Rattle.std.proofs.Common.{◌≡◌, ◌<◌, ◌≤◌, ◌+◌, ◌%◌, ◌/◌, ◌^◌, ◌*◌, ◌-◌, ℕ, zero, suc, length, drop, List, [], ◌∷◌}
use Rattle.std.proofs.Common.{◌++◌}
use Rattle.std.proofs.Common.{Option, Some, None, Bool, true, false, decimal, append_assoc, refl, sym, ap, ◌∙◌, subst}
use Rattle.std.proofs.Common.{arith}
use Rattle.std.proofs.lemmas.Bool.Decides.{nat_tests}
use Rattle.std.proofs.lemmas.Fmt.{decimal_by_steps}
use Rattle.std.specs.Prelude.{◌==◌, slice_get, option_map, option_and_then, if◌then◌else◌}
use Rattle.foundation.proofs.TruthValues.{unless}
use Rattle.arm_value.specs.Json.{Json}
use Rattle.expression_values.specs.Numbers.{is_digit, with_digit, read_on, numeral}
use Rattle.bicep_meaning.specs.Format.{before_closing, argument_field, argument, field, is_brace, filled_rest}
use Rattle.bicep_meaning.specs.Printed.{printed}
use Rattle.bicep_resolved.specs.Source.{PieceTrees}
use Rattle.bicep_resolved.specs.Source as s
use Rattle.bicep_meaning.specs.Meaning.{joined}
use Rattle.bicep_emission.specs.Texts.{doubled_onto, hole_onto, format_text}
use Rattle.foundation.proofs.Comparisons.{last_digit, eq_itself, eq_of_true}

-- ---- digits

abbrev AreDigits : List ℕ → Type 0
AreDigits [] = Unit {0}
AreDigits (c ∷ cs) = (is_digit c ≡ true) × AreDigits cs

-- digits, one at least, that spell a number
record IsSpelled (n : ℕ) (ds : List ℕ) : Type 0 where
  first : ℕ
  rest : List ℕ
  is : ds ≡ first ∷ rest
  digits : AreDigits ds
  value : read_on 0 ds ≡ Some n

a_digit : (d : ℕ) → d < 10 → is_digit (48 + d) ≡ true
a_digit d h = grind (arith, nat_tests)

digits_push : (ds : List ℕ) (c : ℕ) → AreDigits ds → is_digit c ≡ true → AreDigits (ds ++ c ∷ [])
digits_push [] c h e = (e, tt)
digits_push (d ∷ ds) c h e = (h.0, digits_push ds c h.1 e)

read_push : (n : ℕ) (ds : List ℕ) (c : ℕ)
    → read_on n (ds ++ c ∷ []) ≡ option_and_then (λ m. with_digit m c) (read_on n ds)
unfolding read_on
read_push n [] c = last (with_digit n c)
  where
    last : (o : Option ℕ) → option_and_then (λ m. Some m) o ≡ o
    last (Some m) = refl
    last None = refl
read_push n (d ∷ ds) c = step (with_digit n d) (λ m. read_push m ds c)
  where
    step : (o : Option ℕ) → ((m : ℕ) → read_on m (ds ++ c ∷ []) ≡ option_and_then (λ k. with_digit k c) (read_on m ds))
        → option_and_then (λ m. read_on m (ds ++ c ∷ [])) o
        ≡ option_and_then (λ m. with_digit m c) (option_and_then (λ m. read_on m ds) o)
    step (Some m) f = f m
    step None f = refl

digit_of : (n c : ℕ) → is_digit c ≡ true → with_digit n c ≡ Some (n * 10 + (c - 48))
digit_of n c e = ap (λ b. if b then Some (n * 10 + (c - 48)) else None) e

one_digit : (n : ℕ) → n < 10 → IsSpelled n ((48 + n) ∷ [])
unfolding read_on
one_digit n h = record {
  first = 48 + n;
  rest = [];
  is = refl;
  digits = (a_digit n h, tt);
  value = ap (λ o. option_and_then (λ m. Some m) o) (digit_of 0 (48 + n) (a_digit n h))
      ∙ ap (λ (m : ℕ). Some m) (omega arith);
}

more_digits : (n : ℕ) (ds : List ℕ) → 10 ≤ n → IsSpelled (n / 10) ds → IsSpelled n (ds ++ (48 + n % 10) ∷ [])
more_digits n ds h p = record {
  first = p.first;
  rest = p.rest ++ (48 + n % 10) ∷ [];
  is = ap (λ x. x ++ (48 + n % 10) ∷ []) p.is;
  digits = digits_push ds (48 + n % 10) p.digits (a_digit (n % 10) (last_digit n));
  value = read_push 0 ds (48 + n % 10) ∙ ap (λ o. option_and_then (λ m. with_digit m (48 + n % 10)) o) p.value
      ∙ digit_of (n / 10) (48 + n % 10) (a_digit (n % 10) (last_digit n)) ∙ ap (λ (m : ℕ). Some m) (omega arith);
}

spelled : (n : ℕ) → n < 2 ^ 64 → IsSpelled n (decimal n)
spelled n h = decimal_by_steps IsSpelled one_digit more_digits n h

digit_below : (c : ℕ) → is_digit c ≡ true → c < 58
digit_below c e = grind (arith, nat_tests)

no_digit : (c d : ℕ) → 58 ≤ d → is_digit c ≡ true → (c == d) ≡ false
no_digit c d h e = unless (c == d) (λ q. apart (digit_below c e) (eq_of_true c d q))
  where
    apart : c < 58 → c ≡ d → ⊥
    apart l q = omega arith

-- ---- a hole

closing : (ds rest : List ℕ) → AreDigits ds → before_closing (ds ++ 125 ∷ rest) ≡ Some ds
unfolding before_closing
closing [] rest h = refl
closing (d ∷ ds) rest h =
    ap (λ b. if b then Some [] else option_map (λ s. d ∷ s) (before_closing (ds ++ 125
    ∷ rest))) (no_digit d 125 (omega arith) h.0)
    ∙ ap (option_map (λ (s : List ℕ). d ∷ s)) (closing ds rest h.1)

taken : (args : List Json) (ds rest : List ℕ)
    → filled_rest args (suc (length ds)) (ds ++ 125 ∷ rest) ≡ filled_rest args 0 rest
unfolding filled_rest
taken args [] rest = refl
taken args (d ∷ ds) rest = taken args ds rest

numeral_is : (n : ℕ) (ds : List ℕ) → IsSpelled n ds → numeral ds ≡ Some n
numeral_is n ds p = some_length ds p.first p.rest p.is ∙ p.value
  where
    some_length : (ds : List ℕ) (c : ℕ) (cs : List ℕ) → ds ≡ c ∷ cs → numeral ds ≡ read_on 0 ds
    some_length ds c cs e = subst (λ (ds : List ℕ). numeral ds ≡ read_on 0 ds) (sym e) (not_empty c cs)
      where
        not_empty : (c : ℕ) (cs : List ℕ) → numeral (c ∷ cs) ≡ read_on 0 (c ∷ cs)
        not_empty c cs = ap (λ b. if b then None else read_on 0 (c ∷ cs)) (no_zero (length cs))
          where
            no_zero : (n : ℕ) → (suc n == 0) ≡ false
            no_zero n = grind (arith, nat_tests)

-- what is found for a hole
field_is : (args : List Json) (i : ℕ) (j : Json) (ds rest : List ℕ) → IsSpelled i ds → slice_get args i ≡ Some j
    → field args 123 (ds ++ 125 ∷ rest) ≡ Some (printed j, suc (length ds))
field_is args i j ds rest p e =
    subst (λ (ds : List ℕ). AreDigits ds → field args 123 (ds ++ 125 ∷ rest)
    ≡ argument_field args (ds ++ 125 ∷ rest)) (sym p.is)
    (λ d. ap (λ b. if b then Some (123 ∷ [], 1) else argument_field args ((p.first ∷ p.rest) ++ 125 ∷ rest))
    (no_digit p.first 123 (omega arith) d.0)) p.digits
    ∙ ap (λ o. option_and_then (λ digits. option_map (λ j. (printed j, suc (length digits))) (argument args digits)) o)
    (closing ds rest p.digits)
    ∙ ap (λ o. option_map (λ j. (printed j, suc (length ds))) (option_and_then (slice_get args) o)) (numeral_is i ds p)
    ∙ ap (option_map (λ (j : Json). (printed j, suc (length ds)))) e

hole_filled : (args : List Json) (i : ℕ) (j : Json) (rest : List ℕ) → i < 2 ^ 64 → slice_get args i ≡ Some j
    → filled_rest args 0 (hole_onto i rest) ≡ option_map (λ r. printed j ++ r) (filled_rest args 0 rest)
unfolding filled_rest
hole_filled args i j rest h e =
    ap (λ o. option_and_then (λ f. option_map (λ r. f.0 ++ r) (filled_rest args f.1 (decimal i ++ 125 ∷ rest))) o)
    (field_is args i j (decimal i) rest (spelled i h) e)
    ∙ ap (option_map (λ (r : List ℕ). printed j ++ r)) (taken args (decimal i) rest)

-- ---- characters

map_same : (o : Option (List ℕ)) → o ≡ option_map (λ r. r) o
map_same (Some r) = refl
map_same None = refl

map_after : (c : ℕ) (cs : List ℕ) (o : Option (List ℕ))
    → option_map (λ r. c ∷ r) (option_map (λ r. cs ++ r) o) ≡ option_map (λ r. (c ∷ cs) ++ r) o
map_after c cs (Some r) = refl
map_after c cs None = refl

one_filled : (args : List Json) (c : ℕ) (rest : List ℕ) (b : Bool) → is_brace c ≡ b
    → filled_rest args 0 (if b then c ∷ c ∷ rest else c ∷ rest) ≡ option_map (λ r. c ∷ r) (filled_rest args 0 rest)
unfolding filled_rest
one_filled args c rest true e =
    ap (λ b. if b then option_and_then (λ f. option_map (λ r. f.0 ++ r) (filled_rest args f.1 (c
    ∷ rest))) (field args c (c ∷ rest))
    else option_map (λ r. c ∷ r) (filled_rest args 0 (c ∷ rest))) e
    ∙ ap (λ b. option_and_then (λ f. option_map (λ r. f.0 ++ r) (filled_rest args f.1 (c ∷ rest)))
    (if b then Some (c ∷ [], 1) else (if c == 123 then argument_field args (c ∷ rest) else None))) (eq_itself c)
one_filled args c rest false e =
    ap (λ b. if b then option_and_then (λ f. option_map (λ r. f.0 ++ r) (filled_rest args f.1 rest)) (field args c rest)
    else option_map (λ r. c ∷ r) (filled_rest args 0 rest)) e

doubled_filled : (args : List Json) (cs rest : List ℕ)
    → filled_rest args 0 (doubled_onto cs rest) ≡ option_map (λ r. cs ++ r) (filled_rest args 0 rest)
doubled_filled args [] rest = map_same (filled_rest args 0 rest)
doubled_filled args (c ∷ cs) rest =
    one_filled args c (doubled_onto cs rest) (is_brace c) refl
    ∙ ap (option_map (λ (r : List ℕ). c ∷ r)) (doubled_filled args cs rest)
    ∙ map_after c cs (filled_rest args 0 rest)

-- ---- the whole text

-- the printed values, each with the characters after it
abbrev pub afters : PieceTrees → List Json → List (List ℕ)
afters s.no_piece js = []
afters (s.piece e after ps) [] = []
afters (s.piece e after ps) (j ∷ js) = (printed j ++ after) ∷ afters ps js

-- so many values
abbrev pub AreFor : PieceTrees → List Json → Type 0
AreFor s.no_piece [] = Unit {0}
AreFor s.no_piece (j ∷ js) = ⊥
AreFor (s.piece e after ps) [] = ⊥
AreFor (s.piece e after ps) (j ∷ js) = AreFor ps js

abbrev IsEmpty : List Json → Type 0
IsEmpty [] = Unit {0}
IsEmpty (j ∷ js) = ⊥

no_item : (j : Json) (js : List Json) → [] ≡ j ∷ js → ⊥
no_item j js e = subst IsEmpty e tt

first_there : (args : List Json) (i : ℕ) (j : Json) (js : List Json) → drop i args ≡ j ∷ js
    → (slice_get args i ≡ Some j) × (drop (suc i) args ≡ js)
first_there [] zero j js e = absurd (no_item j js e)
first_there [] (suc i) j js e = absurd (no_item j js e)
first_there (k ∷ ks) zero j js e = (cc, cc)
first_there (k ∷ ks) (suc i) j js e = first_there ks i j js e

pub format_filled : (args : List Json) (i : ℕ) (before : List ℕ) (ps : PieceTrees) (js : List Json) → drop i args ≡ js
    → AreFor ps js → i + length js ≤ 2 ^ 64
    → filled_rest args 0 (format_text i before ps) ≡ Some (before ++ joined (afters ps js))
unfolding filled_rest
format_filled args i before s.no_piece [] e h l = doubled_filled args before []
format_filled args i before s.no_piece (j ∷ js) e h l = absurd h
format_filled args i before (s.piece x after ps) [] e h l = absurd h
format_filled args i before (s.piece x after ps) (j ∷ js) e h l =
    let p = first_there args i j js e in
    doubled_filled args before (hole_onto i (format_text (suc i) after ps))
    ∙ ap (option_map (λ (r : List ℕ). before ++ r))
    (hole_filled args i j (format_text (suc i) after ps) (omega arith) p.0
    ∙ ap (option_map (λ (r : List ℕ). printed j ++ r))
    (format_filled args (suc i) after ps js p.1 h (omega arith)))
    ∙ ap (λ (r : List ℕ). Some (before ++ r)) (sym (append_assoc (printed j) after (joined (afters ps js))))
