-- What a loop over the members of what is given has come to.
use Rattle.std.proofs.Common.{◌≡◌, ◌≢◌, ◌≤◌, ◌<◌, ◌+◌, ℕ, length, get_or, drop, List, [], ◌∷◌, ◌++◌, map, Option}
use Rattle.std.proofs.Common.{Some, None, if◌then◌else◌, arith}
use Rattle.std.proofs.Common.{Result, Ok, Err, refl, sym, ap, ap₂, ◌∙◌, append_assoc}
use Rattle.std.proofs.lemmas.List.{drop_all, append-nil}
use Rattle.foundation.proofs.Lists.{next_item}
use Rattle.arm_value.specs.Json.{Json, pairs}
use Rattle.arm_value.specs.Pointer.{step, token}
use Rattle.arm_value.specs.View.{json, member}
use Rattle.arm_value.specs.declared.value.Field.{Field}
use Rattle.template_parameters.specs.Given.{Entry, is_value, value_in, new_entry, entry_before, entry_by, given_in}

-- the entries, and then what these give
abbrev pub onto : List Entry → Result (List Entry) (List ℕ) → Result (List Entry) (List ℕ)
onto es (Ok rest) = Ok (es ++ rest)
onto es (Err path) = Err path

onto-push : (es : List Entry) (e : Entry) (r : Result (List Entry) (List ℕ))
    → onto es (entry_before e r) ≡ onto (es ++ e ∷ []) r
onto-push es e (Ok rest) = ap Ok (sym (append_assoc es (e ∷ []) rest))
onto-push es e (Err path) = refl

pub onto-nothing : (r : Result (List Entry) (List ℕ)) → onto [] r ≡ r
onto-nothing (Ok rest) = refl
onto-nothing (Err path) = refl

-- what the members from a place on give, after these names
abbrev pub given_from : List (List ℕ) → List Field → ℕ → Result (List Entry) (List ℕ)
given_from names fs i = given_in names (pairs (map member (drop i fs)))

turn : (names : List (List ℕ)) (fs : List Field) (i : ℕ) (f : Field) (o : Option Json) → i < length fs
    → f ≡ get_or fs i f → o ≡ new_entry names f.name (json f.value)
    → given_from names fs i ≡ entry_by f.name o (given_from (names ++ f.name ∷ []) fs (i + 1))
turn names fs i f o h is e =
    ap (λ ds. given_in names (pairs (map member ds))) (next_item fs i f h is)
    ∙ ap (λ p. entry_by f.name p (given_from (names ++ f.name ∷ []) fs (i + 1))) (sym e)

-- one entry more
pub given_step : (all : Result (List Entry) (List ℕ)) (es new : List Entry) (names after : List (List ℕ))
    (fs : List Field) (i : ℕ) (f : Field) (o : Option Json) (v : Json) → all ≡ onto es (given_from names fs i)
    → i < length fs → f ≡ get_or fs i f → o ≡ new_entry names f.name (json f.value) → o ≡ Some v
    → after ≡ names ++ f.name ∷ [] → new ≡ es ++ (f.name, v) ∷ [] → all ≡ onto new (given_from after fs (i + 1))
given_step all es new names after fs i f o v a h is e s n m =
    let rest = given_from (names ++ f.name ∷ []) fs (i + 1) in
    a ∙ ap (onto es) (turn names fs i f o h is e) ∙ ap (λ p. onto es (entry_by f.name p rest)) s
    ∙ onto-push es (f.name, v) rest ∙ ap₂ (λ g ns. onto g (given_from ns fs (i + 1))) (sym m) (sym n)

-- a member that gives nothing
pub given_stop : (all : Result (List Entry) (List ℕ)) (es : List Entry) (names : List (List ℕ)) (fs : List Field)
    (i : ℕ) (f : Field) (o : Option Json) → all ≡ onto es (given_from names fs i) → i < length fs → f ≡ get_or fs i f
    → o ≡ new_entry names f.name (json f.value) → o ≡ None → all ≡ Err (step (token f.name))
given_stop all es names fs i f o a h is e s =
    let rest = given_from (names ++ f.name ∷ []) fs (i + 1) in
    a ∙ ap (onto es) (turn names fs i f o h is e) ∙ ap (λ p. onto es (entry_by f.name p rest)) s

-- all members
pub given_end : (all : Result (List Entry) (List ℕ)) (es : List Entry) (names : List (List ℕ)) (fs : List Field) (i : ℕ)
    → all ≡ onto es (given_from names fs i) → length fs ≤ i → all ≡ Ok es
given_end all es names fs i a h =
    a ∙ ap (λ ds. onto es (given_in names (pairs (map member ds)))) (drop_all i fs h) ∙ ap Ok (append-nil es)

-- of one member
pub one_value : (fs : List Field) (f : Field) → 1 ≤ length fs → length fs < 2 → f ≡ get_or fs 0 f
    → value_in (pairs (map member fs)) ≡ (if is_value f.name then Some (json f.value) else None)
one_value [] f h l e = absurd (omega arith)
one_value (x ∷ []) f h l e = ap (λ (y : Field). if is_value y.name then Some (json y.value) else None) (sym e)
one_value (x ∷ y ∷ fs) f h l e = absurd (omega arith)

-- of no member, or of more
pub no_value : (fs : List Field) → length fs ≢ 1 → value_in (pairs (map member fs)) ≡ None
no_value [] h = refl
no_value (x ∷ []) h = absurd (h refl)
no_value (x ∷ y ∷ fs) h = refl
