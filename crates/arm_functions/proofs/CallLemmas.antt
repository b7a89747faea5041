-- Calls of functions: what their arguments are, and when a call is refused.
use Rattle.std.proofs.Common.{◌≡◌, ◌+◌, ℕ, List, [], ◌∷◌, ◌++◌, Option, Some, None, option_map, refl, ap}
use Rattle.std.proofs.Common.{append_assoc, ◌≤◌, map, drop, length, sym, ◌∙◌, append-nil, ◌<◌, get_or, Bool, true}
use Rattle.std.proofs.Common.{false}
use Rattle.arm_value.specs.View.{json}
use Rattle.arm_value.specs.declared.value.Value.{Value}
use Rattle.function_numbers.proofs.RowLemmas.{none_left, next_in}
use Rattle.function_prints.specs.Cuts.{texts_in}
use Rattle.std.specs.Prelude.{option_and_then, if◌then◌else◌}
use Rattle.function_numbers.specs.Kinds.{text_of}
use Rattle.arm_value.specs.Json.{Json}
use Rattle.arm_functions.specs.declared.fault.FunctionFault.{FunctionFault}
use Rattle.arm_functions.specs.declared.fault.FunctionFault.TheVariants.{WrongCount}
use Rattle.arm_functions.specs.declared.plain.Plain.{Plain}
use Rattle.arm_functions.specs.Values.{admits, value_by, value_of, function_value}
use Rattle.arm_functions.specs.Calls.{refusal_by, refusal}
use Rattle.arm_functions.specs.Table.{row_of}

pub onto : (done : List (List ℕ)) (t : List ℕ) (o : Option (List (List ℕ)))
    → option_map (λ ts. (done ++ t ∷ []) ++ ts) o
    ≡ option_map (λ ts. done ++ ts) (option_map (λ ts. t ∷ ts) o)
onto done t (Some ts) = ap Some (append_assoc done (t ∷ []) ts)
onto done t None = refl

pub by_text : (o : Option (List ℕ)) (t : List ℕ) (js : List Json) → Some t ≡ o
    → option_and_then (λ t. option_map (λ ts. t ∷ ts) (texts_in js)) o
    ≡ option_map (λ ts. t ∷ ts) (texts_in js)
by_text o t js e = ap (option_and_then (λ t. option_map (λ ts. t ∷ ts) (texts_in js))) (sym e)

pub text_ends : (vs : List Value) (i : ℕ) (done : List (List ℕ)) (all : Option (List (List ℕ)))
    → length vs ≤ i → option_map (λ ts. done ++ ts) (texts_in (map json (drop i vs))) ≡ all
    → Some done ≡ all
unfolding texts_in
text_ends vs i done all l before =
    ap Some (sym (append-nil done))
    ∙ ap (λ js. option_map (λ ts. done ++ ts) (texts_in js)) (sym (none_left vs i l)) ∙ before

pub text_fails : (vs : List Value) (i : ℕ) (v : Value) (done : List (List ℕ))
    (all : Option (List (List ℕ))) → i < length vs → v ≡ get_or vs i v → None ≡ text_of (json v)
    → option_map (λ ts. done ++ ts) (texts_in (map json (drop i vs))) ≡ all → None ≡ all
unfolding texts_in
text_fails vs i v done all l e h before =
    ap (λ o. option_map (λ ts. done ++ ts)
    (option_and_then (λ t. option_map (λ ts. t ∷ ts) (texts_in (map json (drop (i + 1) vs))))
    o)) h ∙ ap (λ js. option_map (λ ts. done ++ ts) (texts_in js)) (sym (next_in vs i v l e))
    ∙ before

pub text_more : (vs : List Value) (i : ℕ) (v : Value) (done : List (List ℕ)) (t : List ℕ)
    (all : Option (List (List ℕ))) → i < length vs → v ≡ get_or vs i v → Some t ≡ text_of (json v)
    → option_map (λ ts. done ++ ts) (texts_in (map json (drop i vs))) ≡ all
    → option_map (λ ts. (done ++ t ∷ []) ++ ts) (texts_in (map json (drop (i + 1) vs))) ≡ all
unfolding texts_in
text_more vs i v done t all l e h before =
    onto done t (texts_in (map json (drop (i + 1) vs)))
    ∙ ap (option_map (λ ts. done ++ ts))
    (sym (by_text (text_of (json v)) t (map json (drop (i + 1) vs)) h))
    ∙ ap (λ js. option_map (λ ts. done ++ ts) (texts_in js)) (sym (next_in vs i v l e)) ∙ before

pub unless_admitted : (b : Bool) (f : FunctionFault) (v : Option Json)
    → (if b then None else Some WrongCount) ≡ Some f → (if b then v else None) ≡ None
unless_admitted true f v e = absurd cc
unless_admitted false f v e = refl

pub refused_by : (r : Option (ℕ × Option ℕ × Option Plain)) (args : List Json) (f : FunctionFault)
    → refusal_by r (length args) ≡ Some f → value_by r args ≡ None
refused_by None args f e = refl
refused_by (Some (least, most, None)) args f e = refl
refused_by (Some (least, most, Some g)) args f e =
    unless_admitted (admits least most (length args)) f (value_of g args) e

pub refused : (name : List ℕ) (args : List Json) (f : FunctionFault)
    → refusal name (length args) ≡ Some f → function_value name args ≡ None
refused name args f e = refused_by (row_of name) args f e
