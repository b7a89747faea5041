-- What the loops over items and members of literal values have come to.
use Rattle.std.proofs.Common.{◌≡◌, ◌≤◌, ◌<◌, ◌+◌, ℕ, length, get_or, drop, false, List, [], ◌∷◌, ◌++◌, map, Option}
use Rattle.std.proofs.Common.{Some, None, if◌then◌else◌, sym, ap, ap₂, ◌∙◌, arith}
use Rattle.std.proofs.lemmas.List.{drop_all}
use Rattle.foundation.proofs.Lists.{next_item}
use Rattle.arm_value.specs.Json.{Json, Row, Pairs, Member, row, pairs, nesting}
use Rattle.arm_value.specs.View.{json, member}
use Rattle.arm_value.specs.declared.value.Value.{Value}
use Rattle.arm_value.specs.declared.value.Field.{Field}
use Rattle.arm_value.proofs.JsonLemmas as parts
use Rattle.template_parameters.specs.Literal.{literal, row_literal, pairs_literal}
use Rattle.template_parameters.proofs.LiteralLemmas.{literal_nests}
use Rattle.arm_value.specs.Gathered.{item_before, pair_before}
use Rattle.arm_value.proofs.GatheredLemmas.{then_row-none, then_pairs-none, with_row}
use Rattle.arm_value.proofs.GatheredLemmas.{with_pairs, with_row-push, with_pairs-push}
use Rattle.arm_expr.specs.Brackets.{is_copy}

pub literal_within : (j k : Json) (o : Option Json) (n : ℕ) → o ≡ literal j → o ≡ Some k → nesting j ≤ n → nesting k ≤ n
literal_within j k o n e f h = omega (arith, literal_nests j k o e f)

pub literal_item : (all : Option Row) (found new : List Json) (vs : List Value) (i : ℕ) (v : Value) (k : Json)
    (o : Option Json) → all ≡ with_row found (row_literal (row (map json (drop i vs)))) → i < length vs
    → v ≡ get_or vs i v → o ≡ literal (json v) → o ≡ Some k
    → new ≡ found ++ k ∷ [] → all ≡ with_row new (row_literal (row (map json (drop (i + 1) vs))))
literal_item all found new vs i v k o a h is e f n =
    let rest = row_literal (row (map json (drop (i + 1) vs))) in
    a ∙ ap (λ ds. with_row found (row_literal (row (map json ds)))) (next_item vs i v h is)
    ∙ ap (λ s. with_row found (item_before s rest)) (sym e ∙ f) ∙ with_row-push found k rest
    ∙ ap (λ g. with_row g rest) (sym n)

pub literal_items : (found : List Json) (vs : List Value) (js : List Json) (i : ℕ) → map json vs ≡ js → length vs ≤ i
    → row_literal (row (map json vs)) ≡ with_row found (row_literal (row (map json (drop i vs))))
    → Some (row found) ≡ row_literal (row js)
literal_items found vs js i e h a =
    sym (ap (λ ks. row_literal (row ks)) (sym e) ∙ a
    ∙ ap (λ ds. with_row found (row_literal (row (map json ds)))) (drop_all i vs h)
    ∙ ap Some (then_row-none found))

pub literal_member : (all : Option Pairs) (found new : List Member) (fs : List Field) (i : ℕ) (f : Field)
    (name : List ℕ) (k : Json) (o : Option Json)
    → all ≡ with_pairs found (pairs_literal (pairs (map member (drop i fs)))) → i < length fs → f ≡ get_or fs i f
    → is_copy f.name ≡ false → name ≡ f.name → o ≡ literal (json f.value) → o ≡ Some k
    → new ≡ found ++ (name, k) ∷ [] → all ≡ with_pairs new (pairs_literal (pairs (map member (drop (i + 1) fs))))
literal_member all found new fs i f name k o a h is plain e s t n =
    let rest = pairs_literal (pairs (map member (drop (i + 1) fs))) in
    a ∙ ap (λ ds. with_pairs found (pairs_literal (pairs (map member ds)))) (next_item fs i f h is)
    ∙ ap (λ b. with_pairs found (if b then None else pair_before f.name (literal (json f.value)) rest)) plain
    ∙ ap₂ (λ (l : List ℕ) j. with_pairs found (pair_before l j rest)) (sym e) (sym s ∙ t)
    ∙ with_pairs-push found (name, k) rest ∙ ap (λ g. with_pairs g rest) (sym n)

pub literal_members : (found : List Member) (fs : List Field) (ms : List Member) (i : ℕ) → map member fs ≡ ms
    → length fs ≤ i
    → pairs_literal (pairs (map member fs)) ≡ with_pairs found (pairs_literal (pairs (map member (drop i fs))))
    → Some (pairs found) ≡ pairs_literal (pairs ms)
literal_members found fs ms i e h a =
    sym (ap (λ ns. pairs_literal (pairs ns)) (sym e) ∙ a
    ∙ ap (λ ds. with_pairs found (pairs_literal (pairs (map member ds)))) (drop_all i fs h)
    ∙ ap Some (then_pairs-none found))
