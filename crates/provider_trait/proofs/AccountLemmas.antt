-- Names of accounts by their bytes and by their characters.
use Rattle.std.proofs.Common.{◌≡◌, ◌<◌, ◌≤◌, ℕ, length, get_or, Bool, true, false, ◌&&◌, nat_le, List, [], ◌∷◌, ◌++◌}
use Rattle.std.proofs.Common.{refl, sym, ap, ap₂, ◌∙◌, arith, true≢false, append-nil, ◌⊎◌, inl, inr}
use lib.Utf8.{encode, encodes}
use Rattle.std.specs.List.{list_all}
use Rattle.std.proofs.lemmas.Bool.{cases_lt}
use Rattle.std.proofs.lemmas.Bool.Decides.{nat_tests}
use Rattle.std.proofs.lemmas.Str.{encode_ascii, inside_one, length-encode, len_utf8_bounds}
use Rattle.provider_trait.specs.Catalog.{is_account_character, is_account_name}
use Rattle.foundation.proofs.TruthValues.{both, first_fails, second_fails, third_decides}
use Rattle.foundation.proofs.Comparisons.{le_true, le_false}

high_fails : (c : ℕ) → 128 ≤ c → is_account_character c ≡ false
high_fails c h = grind (arith, nat_tests)

first_high : (c : ℕ) → 128 ≤ c → (0 < length (encode c)) × (128 ≤ get_or (encode c) 0 0)
first_high c h =
    let long : 0 < length (encode c) = omega (arith, length-encode c, (len_utf8_bounds c).0) in
    (long, by_cases (cases_lt (get_or (encode c) 0 0) 128) long)
  where
    by_cases : (get_or (encode c) 0 0 < 128) ⊎ (128 ≤ get_or (encode c) 0 0) → 0 < length (encode c)
        → 128 ≤ get_or (encode c) 0 0
    by_cases (inl low) long = let same : c ≡ get_or (encode c) 0 0 =
        inside_one c [] (encode c) 0 (sym (append-nil (encode c))) long low in omega arith
    by_cases (inr high) long = high

fails_at_first : (bs rest : List ℕ) → 0 < length bs → 128 ≤ get_or bs 0 0
    → list_all is_account_character (bs ++ rest) ≡ false
fails_at_first [] rest l h = absurd (omega (arith, l))
fails_at_first (b ∷ bs) rest l h = ap (λ r. r && list_all is_account_character (bs ++ rest)) (high_fails b h)

all_by : (c : ℕ) (cs : List ℕ) → (c < 128) ⊎ (128 ≤ c)
    → list_all is_account_character (encodes cs) ≡ list_all is_account_character cs
    → list_all is_account_character (encodes (c ∷ cs)) ≡ list_all is_account_character (c ∷ cs)
all_by c cs (inl low) h =
    ap (λ bs. list_all is_account_character (bs ++ encodes cs)) (encode_ascii c low)
    ∙ ap (λ r. is_account_character c && r) h
all_by c cs (inr high) h =
    let first = first_high c high in
    fails_at_first (encode c) (encodes cs) first.0 first.1
    ∙ sym (ap (λ r. r && list_all is_account_character cs) (high_fails c high))

all-encodes : (cs : List ℕ) → list_all is_account_character (encodes cs) ≡ list_all is_account_character cs
all-encodes [] = refl
all-encodes (c ∷ cs) = all_by c cs (cases_lt c 128) (all-encodes cs)

passes_low : (c : ℕ) → is_account_character c ≡ true → c < 128
passes_low c e = by_cases (cases_lt c 128)
  where
    by_cases : (c < 128) ⊎ (128 ≤ c) → c < 128
    by_cases (inl low) = low
    by_cases (inr high) = absurd (true≢false (sym e ∙ high_fails c high))

encodes_same : (cs : List ℕ) → list_all is_account_character cs ≡ true → encodes cs ≡ cs
encodes_same [] e = refl
encodes_same (c ∷ cs) e =
    let h = both (is_account_character c) (list_all is_account_character cs) e in
    ap₂ (λ a b. a ++ b) (encode_ascii c (passes_low c h.0)) (encodes_same cs h.1)

none : (a b : Bool) → (a && (b && false)) ≡ false
none true true = refl
none true false = refl
none false b = refl

-- a name's bytes tell whether it is an account's
pub account_by_bytes : (cs : List ℕ)
    → (nat_le 3 (length (encodes cs))
    && (nat_le (length (encodes cs)) 24 && list_all is_account_character (encodes cs))) ≡ is_account_name cs
account_by_bytes cs = by_all (list_all is_account_character cs) refl
  where
    by_all : (b : Bool) → list_all is_account_character cs ≡ b
        → (nat_le 3 (length (encodes cs))
        && (nat_le (length (encodes cs)) 24 && list_all is_account_character (encodes cs))) ≡ is_account_name cs
    by_all true e = ap (λ bs. nat_le 3 (length bs) && (nat_le (length bs) 24 && list_all is_account_character bs))
        (encodes_same cs e)
    by_all false e =
        ap (λ b. nat_le 3 (length (encodes cs)) && (nat_le (length (encodes cs)) 24 && b)) (all-encodes cs ∙ e)
        ∙ none _ _ ∙ sym (ap (λ b. nat_le 3 (length cs) && (nat_le (length cs) 24 && b)) e ∙ none _ _)

-- a name that is too short, too long, or of a fit length
pub too_short : (cs bs : List ℕ) → bs ≡ encodes cs → length bs < 3 → false ≡ is_account_name cs
too_short cs bs e l =
    first_fails _ (nat_le (length (encodes cs)) 24) (list_all is_account_character (encodes cs))
    (let short : length (encodes cs) < 3 = omega (arith, ap length e, l) in le_false 3 _ short)
    ∙ account_by_bytes cs

pub too_long : (cs bs : List ℕ) → bs ≡ encodes cs → 3 ≤ length bs → 24 < length bs → false ≡ is_account_name cs
too_long cs bs e m l =
    second_fails _ _ (list_all is_account_character (encodes cs)) (let enough : 3 ≤ length (encodes cs) =
    omega (arith, ap length e, m) in le_true 3 _ enough) (let long : 24 < length (encodes cs) =
    omega (arith, ap length e, l) in le_false _ 24 long) ∙ account_by_bytes cs

pub fit_length : (cs bs : List ℕ) (r : Bool) → bs ≡ encodes cs → 3 ≤ length bs → length bs ≤ 24
    → r ≡ list_all is_account_character bs → r ≡ is_account_name cs
fit_length cs bs r e m l h =
    third_decides _ _ (list_all is_account_character (encodes cs)) r (let enough : 3 ≤ length (encodes cs) =
    omega (arith, ap length e, m) in le_true 3 _ enough) (let few : length (encodes cs) ≤ 24 =
    omega (arith, ap length e, l) in le_true _ 24 few) (h ∙ ap (list_all is_account_character) e)
    ∙ account_by_bytes cs
