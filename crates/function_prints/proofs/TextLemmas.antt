-- Printed forms as characters.
use Rattle.std.proofs.Common.{◌≡◌, ◌<◌, ◌≤◌, ◌+◌, ℕ, zero, suc, ℤ, pos, negsuc, true, false, Bool, List, [], ◌∷◌}
use Rattle.std.proofs.Common.{◌++◌, length, get_or, drop, map, Option, Some, None, option_map, option_and_then, chars}
use Rattle.std.proofs.Common.{codes, IsUtf8, refl, ap, sym, ◌∙◌, append_assoc, append-nil, arith, w64}
use Rattle.std.specs.Prelude.{FitsSigned, if◌then◌else◌}
use Rattle.std.specs.Str.{chars, IsAscii, is_utf8}
use Rattle.std.specs.Fmt.{decimal, signed_decimal}
use Rattle.std.specs.List.{flat_map}
use Rattle.std.proofs.lemmas.Str.{chars-IsAscii, chars-nil, IsUtf8-from_is_utf8}
use Rattle.std.proofs.lemmas.Fmt.{IsAscii-decimal}
use Rattle.arm_value.specs.Json.{Json}
use Rattle.arm_value.specs.View.{json}
use Rattle.arm_value.specs.declared.value.Value.{Value}
use Rattle.serde_json.specs.Data.{Data}
use Rattle.arm_value.specs.Reading.{reading}
use Rattle.function_texts.proofs.RowLemmas.{next_in, none_left}
use Rattle.function_prints.specs.Printed.{printed, printed_scalar, printed_scalars}

pub ruleset characters = (chars-nil, append-nil, append_assoc)

ascii_cons : (b : ℕ) (bs : List ℕ) → b < 128 → IsAscii bs → IsAscii (b ∷ bs)
ascii_cons b bs h f zero = h
ascii_cons b bs h f (suc i) = f i

ascii_number : (z : ℤ) → FitsSigned w64 z → IsAscii (signed_decimal z)
ascii_number (pos n) f = IsAscii-decimal n (omega arith)
ascii_number (negsuc n) f = ascii_cons 45 (decimal (suc n)) (omega arith) (IsAscii-decimal (suc n) (omega arith))

-- a number's digits are their own characters
pub number_characters : (z : ℤ) → FitsSigned w64 z → chars (signed_decimal z) ≡ signed_decimal z
number_characters z f = chars-IsAscii (signed_decimal z) (ascii_number z f)

text_by : (b : Bool) (o : Option Data) (d : Data) → (if b then o else None) ≡ Some d → b ≡ true
text_by true o d e = refl
text_by false o d e = absurd (cc)

-- what is read as JSON is text
pub is_text : (bytes : List ℕ) (d : Data) → reading bytes ≡ Some d → IsUtf8 bytes
is_text bytes d e = IsUtf8-from_is_utf8 bytes (text_by (is_utf8 bytes) _ d e)

-- ---- printed forms one after another

scalars-cons : (j : Json) (js : List Json)
    → printed_scalars (j ∷ js) ≡ option_and_then (λ s. option_map (λ rest. s ++ rest) (printed_scalars js))
    (printed_scalar j)
unfolding printed_scalars
scalars-cons j js = refl

scalars-nil : printed_scalars [] ≡ Some []
unfolding printed_scalars
scalars-nil = refl

scalars_on : (front s : List ℕ) (o : Option (List ℕ))
    → option_map (λ rest. front ++ rest) (option_map (λ rest. s ++ rest) o)
    ≡ option_map (λ rest. (front ++ s) ++ rest) o
scalars_on front s None = refl
scalars_on front s (Some rest) = ap Some (sym (append_assoc front s rest))

pub scalars_more : (front more s : List ℕ) (vs : List Value) (i : ℕ) (v : Value) (all : Option (List ℕ))
    → i < length vs → v ≡ get_or vs i v → ◌≡◌ {A = Option (List ℕ)} (Some s) (printed_scalar (json v))
    → more ≡ front ++ s
    → option_map (λ rest. front ++ rest) (printed_scalars (map json (drop i vs))) ≡ all
    → option_map (λ rest. more ++ rest) (printed_scalars (map json (drop (i + 1) vs))) ≡ all
scalars_more front more s vs i v all h e n grown before =
    let js = map json (drop (i + 1) vs) in
    let step : printed_scalars (map json (drop i vs)) ≡ option_map (λ rest. s ++ rest) (printed_scalars js) =
    ap printed_scalars (next_in vs i v h e) ∙ scalars-cons (json v) js
    ∙ ap (option_and_then (λ t. option_map (λ rest. t ++ rest) (printed_scalars js))) (sym n) in
    rw grown (sym (scalars_on front s (printed_scalars js)) ∙ ap (option_map (λ rest. front ++ rest)) (sym step)
    ∙ before)

pub scalars_fail : (front : List ℕ) (vs : List Value) (i : ℕ) (v : Value) (all : Option (List ℕ)) → i < length vs
    → v ≡ get_or vs i v → ◌≡◌ {A = Option (List ℕ)} None (printed_scalar (json v))
    → option_map (λ rest. front ++ rest) (printed_scalars (map json (drop i vs))) ≡ all
    → ◌≡◌ {A = Option (List ℕ)} None all
scalars_fail front vs i v all h e n before =
    let js = map json (drop (i + 1) vs) in
    let step : printed_scalars (map json (drop i vs)) ≡ None = ap printed_scalars (next_in vs i v h e)
    ∙ scalars-cons (json v) js ∙ ap (option_and_then (λ t. option_map (λ rest. t ++ rest) (printed_scalars js)))
    (sym n) in
    sym (ap (option_map (λ rest. front ++ rest)) step) ∙ before

pub scalars_end : (front : List ℕ) (vs : List Value) (i : ℕ) (all : Option (List ℕ)) → length vs ≤ i
    → option_map (λ rest. front ++ rest) (printed_scalars (map json (drop i vs))) ≡ all
    → ◌≡◌ {A = Option (List ℕ)} (Some front) all
scalars_end front vs i all h before = ap Some (sym (append-nil front))
    ∙ sym (ap (option_map (λ rest. front ++ rest)) (ap printed_scalars (none_left vs i h) ∙ scalars-nil)) ∙ before

-- ---- with a text between

pub between_more : (front mid more between : List ℕ) (vs : List Value) (i : ℕ) (v : Value) (all : List ℕ)
    → i < length vs → v ≡ get_or vs i v → mid ≡ front ++ between → more ≡ mid ++ printed (json v)
    → front ++ flat_map (λ j. between ++ printed j) (map json (drop i vs)) ≡ all
    → more ++ flat_map (λ j. between ++ printed j) (map json (drop (i + 1) vs)) ≡ all
between_more front mid more between vs i v all h e m n before =
    let rest = flat_map (λ j. between ++ printed j) (map json (drop (i + 1) vs)) in
    let step : flat_map (λ j. between ++ printed j) (map json (drop i vs)) ≡ (between ++ printed (json v)) ++ rest =
    ap (flat_map (λ j. between ++ printed j)) (next_in vs i v h e) in
    rw (n, m) (append_assoc (front ++ between) (printed (json v)) rest
    ∙ append_assoc front between (printed (json v) ++ rest)
    ∙ ap (λ r. front ++ r) (sym (append_assoc between (printed (json v)) rest) ∙ sym step) ∙ before)

pub between_ends : (front between : List ℕ) (vs : List Value) (i : ℕ) (all : List ℕ) → length vs ≤ i
    → front ++ flat_map (λ j. between ++ printed j) (map json (drop i vs)) ≡ all → front ≡ all
between_ends front between vs i all h before = sym (append-nil front)
    ∙ sym (ap (λ js. front ++ flat_map (λ j. between ++ printed j) js) (none_left vs i h)) ∙ before

pub chars_true : chars (codes "True") ≡ codes "True"
unfolding chars
chars_true = refl

pub chars_false : chars (codes "False") ≡ codes "False"
unfolding chars
chars_false = refl

pub ruleset words = (chars_true, chars_false, chars-nil)
