-- The bytes of texts after zero bytes, text by text.
use Rattle.std.proofs.Common.{◌≡◌, ◌<◌, ◌≤◌, ◌+◌, ◌*◌, ◌/◌, ◌∙◌, ℕ, List, [], ◌∷◌, ◌++◌, length, get_or, take, drop}
use Rattle.std.proofs.Common.{map, Option, Some, None, option_map, option_and_then, encode_utf8_all, refl, ap, sym}
use Rattle.std.proofs.Common.{subst, append_assoc, append-nil, arith}
use Rattle.std.specs.Prelude.{slice_index}
use Rattle.std.proofs.lemmas.List.{length-take-le}
use Rattle.sha2.specs.Sha256.{sha256}
use Rattle.sha2.proofs.Facts256.{length-sha256}
use Rattle.arm_value.specs.Json.{Json, text}
use Rattle.arm_value.specs.View.{json}
use Rattle.arm_value.specs.declared.value.Value.{Value}
use Rattle.function_numbers.specs.Kinds.{text_of}
use Rattle.function_numbers.proofs.RowLemmas.{next_in, none_left}
use Rattle.function_identities.specs.Base32.{base32, symbol_of}
use Rattle.function_identities.specs.Identities.{after_zeros, seed_of, unique_string}
use Rattle.function_identities.proofs.BitLemmas.{length-base32, base32_symbol}

zeros-cons : (j : Json) (js : List Json)
    → after_zeros (j ∷ js) ≡ option_and_then
    (λ s. option_map (λ rest. 0 ∷ encode_utf8_all s ++ rest) (after_zeros js)) (text_of j)
unfolding after_zeros
zeros-cons j js = refl

zeros-nil : after_zeros [] ≡ Some []
unfolding after_zeros
zeros-nil = refl

zeros_on : (front s : List ℕ) (o : Option (List ℕ))
    → option_map (λ rest. front ++ rest) (option_map (λ rest. 0 ∷ s ++ rest) o)
    ≡ option_map (λ rest. ((front ++ 0 ∷ []) ++ s) ++ rest) o
zeros_on front s None = refl
zeros_on front s (Some rest) =
    ap Some (sym (append_assoc (front ++ 0 ∷ []) s rest ∙ append_assoc front (0 ∷ []) (s ++ rest)))

pub seed_more : (front mid more s : List ℕ) (vs : List Value) (i : ℕ) (v : Value) (all : Option (List ℕ))
    → i < length vs → v ≡ get_or vs i v → ◌≡◌ {A = Option (List ℕ)} (Some s) (text_of (json v))
    → mid ≡ front ++ 0 ∷ [] → more ≡ mid ++ encode_utf8_all s
    → option_map (λ rest. front ++ rest) (after_zeros (map json (drop i vs))) ≡ all
    → option_map (λ rest. more ++ rest) (after_zeros (map json (drop (i + 1) vs))) ≡ all
seed_more front mid more s vs i v all h e t m n before =
    let js = map json (drop (i + 1) vs) in
    let step : after_zeros (map json (drop i vs)) ≡ option_map (λ rest. 0 ∷ encode_utf8_all s ++ rest)
    (after_zeros js) =
    ap after_zeros (next_in vs i v h e) ∙ zeros-cons (json v) js
    ∙ ap (option_and_then (λ t. option_map (λ rest. 0 ∷ encode_utf8_all t ++ rest) (after_zeros js))) (sym t) in
    rw (n, m) (sym (zeros_on front (encode_utf8_all s) (after_zeros js))
    ∙ ap (option_map (λ rest. front ++ rest)) (sym step) ∙ before)

pub seed_fails : (front : List ℕ) (vs : List Value) (i : ℕ) (v : Value) (all : Option (List ℕ)) → i < length vs
    → v ≡ get_or vs i v → ◌≡◌ {A = Option (List ℕ)} None (text_of (json v))
    → option_map (λ rest. front ++ rest) (after_zeros (map json (drop i vs))) ≡ all
    → ◌≡◌ {A = Option (List ℕ)} None all
seed_fails front vs i v all h e t before =
    let js = map json (drop (i + 1) vs) in
    let step : after_zeros (map json (drop i vs)) ≡ None =
    ap after_zeros (next_in vs i v h e) ∙ zeros-cons (json v) js
    ∙ ap (option_and_then (λ t. option_map (λ rest. 0 ∷ encode_utf8_all t ++ rest) (after_zeros js))) (sym t) in
    sym (ap (option_map (λ rest. front ++ rest)) step) ∙ before

pub seed_ends : (front : List ℕ) (vs : List Value) (i : ℕ) (all : Option (List ℕ)) → length vs ≤ i
    → option_map (λ rest. front ++ rest) (after_zeros (map json (drop i vs))) ≡ all
    → ◌≡◌ {A = Option (List ℕ)} (Some front) all
seed_ends front vs i all h before = ap Some (sym (append-nil front))
    ∙ sym (ap (option_map (λ rest. front ++ rest)) (ap after_zeros (none_left vs i h) ∙ zeros-nil)) ∙ before

-- ---- how long a unique string is, and of which symbols

hash_length : (seed : List ℕ) → length (base32 (take 8 (sha256 seed))) ≡ 13
hash_length seed =
    let eight : length (take 8 (sha256 seed)) ≡ 8 =
    length-take-le 8 (sha256 seed) (omega (arith, length-sha256 seed)) in
    length-base32 (take 8 (sha256 seed)) ∙ ap (λ (n : ℕ). (n * 8 + 4) / 5) eight

hash_given : (o : Option (List ℕ)) (s : List ℕ)
    → option_map (λ seed. text (base32 (take 8 (sha256 seed)))) o ≡ Some (text s) → (seed : List ℕ)
    × (base32 (take 8 (sha256 seed)) ≡ s)
hash_given None s e = absurd (cc e)
hash_given (Some seed) s e = (seed, cc e)

pub unique_length : (args : List Json) (s : List ℕ) → unique_string args ≡ Some (text s) → length s ≡ 13
unique_length args s e = let hash = hash_given (seed_of args) s e in ap length (sym hash.1) ∙ hash_length hash.0

pub unique_symbol : (args : List Json) (s : List ℕ) → unique_string args ≡ Some (text s) → (i : ℕ) → i < 13 → (k : ℕ)
    × (k < 32) × (slice_index s i ≡ symbol_of k)
unique_symbol args s e i l =
    let hash = hash_given (seed_of args) s e in
    let within : i < length (base32 (take 8 (sha256 hash.0))) = omega (arith, hash_length hash.0, l) in
    subst (λ (t : List ℕ). (k : ℕ) × (k < 32) × (slice_index t i ≡ symbol_of k)) hash.1
    (base32_symbol (take 8 (sha256 hash.0)) i within)
