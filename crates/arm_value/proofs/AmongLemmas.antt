-- Whether a name is among names, found one by one.
use Rattle.std.proofs.Common.{ℕ, List, Bor, ◌≡◌, ◌<◌, ◌+◌, ◌∷◌, length, get_or, drop, map, add-one, ap, ◌≤◌, [], Bool}
use Rattle.std.proofs.Common.{true, refl, sym, ◌∙◌, false}
use Rattle.std.specs.Str.{chars}
use Rattle.std.proofs.Math.Seq.{drop-cons}
use Rattle.std.proofs.lemmas.List.{drop_all}
use Rattle.arm_value.specs.Look.{is_same_folded, is_among}

abbrev pub Spelled : Type 0
Spelled = Bor (List ℕ)

abbrev pub spelled : Spelled → List ℕ
spelled n = chars n.now

pub name_apart : (names : List Spelled) (i : ℕ) (d : Spelled) → i < length names
    → map spelled (drop i names) ≡ spelled (get_or names i d) ∷ map spelled (drop (i + 1) names)
name_apart names i d h = rw add-one (ap (map spelled) (drop-cons names i d h))

pub no_name_left : (names : List Spelled) (i : ℕ) → length names ≤ i → map spelled (drop i names) ≡ []
no_name_left names i h = ap (map spelled) (drop_all i names h)

pub name_found : (name n : List ℕ) (ns left : List (List ℕ)) (all : Bool) → left ≡ n ∷ ns
    → true ≡ is_same_folded name n → all ≡ is_among left name → true ≡ all
name_found name n ns left all l t before =
    sym (before ∙ ap (λ xs. is_among xs name) l ∙ rw (sym t) refl)

pub name_passed : (name n : List ℕ) (ns left : List (List ℕ)) (all : Bool) → left ≡ n ∷ ns
    → false ≡ is_same_folded name n → all ≡ is_among left name → all ≡ is_among ns name
name_passed name n ns left all l t before = before ∙ ap (λ xs. is_among xs name) l ∙ rw (sym t) refl

pub no_name : (name : List ℕ) (left : List (List ℕ)) (all : Bool) → left ≡ [] → all ≡ is_among left name → false ≡ all
no_name name left all l before = sym (before ∙ ap (λ xs. is_among xs name) l)
