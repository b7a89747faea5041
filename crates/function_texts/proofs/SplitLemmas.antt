-- Texts cut at delimiters.
use Rattle.std.proofs.Common.{◌≡◌, ◌<◌, ◌≤◌, ◌+◌, ℕ, List, [], ◌∷◌, ◌++◌, length, get_or, drop, map, Option, Some}
use Rattle.std.proofs.Common.{None, option_map, option_and_then, Vec, Global, refl, ap, sym, ◌∙◌, append_assoc}
use Rattle.std.proofs.Common.{append-nil}
use Rattle.std.specs.Result.{OnOk}
use Rattle.std.proofs.Common.{Result, Ok, Err}
use Rattle.arm_value.specs.Json.{Json, text}
use Rattle.function_texts.specs.Cuts.{texts_in}
use Rattle.arm_value.specs.View.{json}
use Rattle.arm_value.specs.declared.value.Value.{Value}
use Rattle.function_numbers.specs.Kinds.{text_of}
use Rattle.function_numbers.proofs.RowLemmas.{next_in, none_left}

-- the characters of each delimiter
abbrev pub spelled : List (Vec ℕ Global) → List (List ℕ)
spelled ds = map (λ d. d.items) ds

texts-cons : (j : Json) (js : List Json)
    → texts_in (j ∷ js) ≡ option_and_then (λ s. option_map (λ ss. s ∷ ss) (texts_in js)) (text_of j)
unfolding texts_in
texts-cons j js = refl

texts-nil : texts_in [] ≡ Some []
unfolding texts_in
texts-nil = refl

texts_on : (front : List (List ℕ)) (s : List ℕ) (o : Option (List (List ℕ)))
    → option_map (λ rest. front ++ rest) (option_map (λ ss. s ∷ ss) o) ≡ option_map
    (λ rest. (front ++ s ∷ []) ++ rest) o
texts_on front s None = refl
texts_on front s (Some ss) = ap Some (sym (append_assoc front (s ∷ []) ss))

pub texts_more : (front more : List (List ℕ)) (s : List ℕ) (vs : List Value) (i : ℕ) (v : Value)
    (all : Option (List (List ℕ))) → i < length vs → v ≡ get_or vs i v
    → ◌≡◌ {A = Option (List ℕ)} (Some s) (text_of (json v)) → more ≡ front ++ s ∷ []
    → option_map (λ rest. front ++ rest) (texts_in (map json (drop i vs))) ≡ all
    → option_map (λ rest. more ++ rest) (texts_in (map json (drop (i + 1) vs))) ≡ all
texts_more front more s vs i v all h e n grown before =
    let js = map json (drop (i + 1) vs) in
    let step : texts_in (map json (drop i vs)) ≡ option_map (λ ss. s ∷ ss) (texts_in js) =
    ap texts_in (next_in vs i v h e) ∙ texts-cons (json v) js
    ∙ ap (option_and_then (λ t. option_map (λ ss. t ∷ ss) (texts_in js))) (sym n) in
    rw grown (sym (texts_on front s (texts_in js)) ∙ ap (option_map (λ rest. front ++ rest)) (sym step) ∙ before)

pub texts_fail : (front : List (List ℕ)) (vs : List Value) (i : ℕ) (v : Value) (all : Option (List (List ℕ)))
    → i < length vs → v ≡ get_or vs i v → ◌≡◌ {A = Option (List ℕ)} None (text_of (json v))
    → option_map (λ rest. front ++ rest) (texts_in (map json (drop i vs))) ≡ all
    → ◌≡◌ {A = Option (List (List ℕ))} None all
texts_fail front vs i v all h e n before =
    let js = map json (drop (i + 1) vs) in
    let step : texts_in (map json (drop i vs)) ≡ None = ap texts_in (next_in vs i v h e) ∙ texts-cons (json v) js
    ∙ ap (option_and_then (λ t. option_map (λ ss. t ∷ ss) (texts_in js))) (sym n) in
    sym (ap (option_map (λ rest. front ++ rest)) step) ∙ before

pub texts_end : (front : List (List ℕ)) (vs : List Value) (i : ℕ) (all : Option (List (List ℕ))) → length vs ≤ i
    → option_map (λ rest. front ++ rest) (texts_in (map json (drop i vs))) ≡ all
    → ◌≡◌ {A = Option (List (List ℕ))} (Some front) all
texts_end front vs i all h before = ap Some (sym (append-nil front))
    ∙ sym (ap (option_map (λ rest. front ++ rest)) (ap texts_in (none_left vs i h) ∙ texts-nil)) ∙ before

-- ---- the pieces so far

pub pieces_more : (js more : List Json) (p : List ℕ) (ps rest : List (List ℕ)) (all : List Json)
    → more ≡ js ++ text p ∷ [] → ps ≡ p ∷ rest → js ++ map text ps ≡ all → more ++ map text rest ≡ all
pieces_more js more p ps rest all m e before =
    rw m (append_assoc js (text p ∷ []) (map text rest) ∙ ap (λ qs. js ++ map text qs) (sym e) ∙ before)

pub pieces_end : (js more : List Json) (p : List ℕ) (ps : List (List ℕ)) (all : List Json)
    → more ≡ js ++ text p ∷ [] → ps ≡ p ∷ [] → js ++ map text ps ≡ all → more ≡ all
pieces_end js more p ps all m e before = m ∙ ap (λ qs. js ++ map text qs) (sym e) ∙ before

pub on_ok : {T E : Type 0} (r : Result T E) (P Q : Type 0) → (P → Q) → OnOk r P → OnOk r Q
on_ok (Ok x) P Q f h = f h
on_ok (Err e) P Q f h = h
