-- Each row of the table of ways says what the values of its function are.
use Rattle.std.proofs.Common.{◌≡◌, ◌⊎◌, inl, inr, ℕ, zero, suc, ◌==◌, ◌&&◌, ◌||◌, Bool, true, false, true≢false}
use Rattle.std.proofs.Common.{List, [], ◌∷◌, take, drop, Option, Some, None, bytes_eq, refl, sym, ap, ap₂, subst}
use Rattle.std.proofs.Common.{◌∙◌, length, not, arith}
use Rattle.std.specs.Prelude.{codes, option_and_then, if◌then◌else◌}
use Rattle.std.specs.List.{AllByRecursion, list_all}
use Rattle.std.proofs.lemmas.Option.{none-some, same_Some}
use Rattle.foundation.proofs.Comparisons.{eq_of_true}
use Rattle.foundation.proofs.TruthValues.{both}
use Rattle.foundation.proofs.Words.{eq_word}
use Rattle.arm_value.specs.Json.{Json}
use Rattle.arm_value.specs.Json as j
use Rattle.arm_value.specs.Look.{fold, is_same_folded}
use Rattle.arm_ids.specs.declared.id.Place.{Place}
use Rattle.arm_env.specs.Id.{resource_id, subscription_id}
use Rattle.arm_env.specs.Names.{placed_named}
use Rattle.arm_env.specs.Object as object
use Rattle.arm_env.specs.declared.function.Strict.{Strict}
use Rattle.arm_env.specs.declared.function.Strict.TheVariants as strict
use Rattle.function_numbers.specs.Kinds.{of_none}
use Rattle.function_lists.specs.Members as members
use Rattle.function_texts.specs.Cuts.{texts_in}
use Rattle.arm_functions.specs.declared.plain.Plain.{Plain}
use Rattle.arm_functions.specs.Table as functions
use Rattle.arm_functions.specs.Table.{Row, row_in, row_of}
use Rattle.arm_functions.specs.Values as values
use Rattle.arm_functions.specs.Values.{admits, value_of, of_lists}
use Rattle.bicep_signatures.specs.declared.signature.Signature.{Signature}
use Rattle.bicep_signatures.specs.declared.signature.Signatures.{Signatures}
use Rattle.bicep_signatures.specs.declared.value_type.ValueType.{ValueType}
use Rattle.bicep_signatures.specs.declared.value_type.ValueType.TheVariants as type
use Rattle.bicep_signatures.specs.Table.{table, signatures_in, signatures_of, where_counted, or_else}
use Rattle.bicep_meaning.specs.Rows.{placed_value, value_by}
use Rattle.bicep_soundness.specs.Values.{IsOfType, Gives}
use Rattle.bicep_soundness.specs.Calls.{WayGives, AllGive, IsAnswered}
use Rattle.bicep_soundness.proofs.PlainLemmas.{plain_type, plain_gives}
use Rattle.bicep_soundness.proofs.GivesLemmas.{of_chosen, of_map}
use Rattle.bicep_soundness.proofs.UnionLemmas.{given, chosen_some, of_either, union_answers, intersection_answers}

-- ---- the type of the values of a function by its name

abbrev Said : Type 0
Said = Option (ℕ × Option ℕ × Option Plain)

abbrev placed_type : Strict → ValueType
placed_type strict.ResourceId = type.Text
placed_type strict.SubscriptionResourceId = type.Text
placed_type strict.ResourceGroup = type.Object
placed_type strict.Subscription = type.Object
placed_type strict.Deployment = type.Object
placed_type f = type.Any

abbrev said_type : Said → ValueType
said_type (Some (least, most, Some f)) = plain_type f
said_type o = type.Any

abbrev type_by : Option Strict → Said → ValueType
type_by (Some f) o = placed_type f
type_by None o = said_type o

none_gives : (t : ValueType) (x : Json) (vs : List Json) → IsOfType t x → Gives t (of_none x vs)
none_gives t x [] h = h
none_gives t x (v ∷ vs) h = tt

placed_gives : (here : Place) (f : Strict) (vs : List Json) → Gives (placed_type f) (placed_value here f vs)
placed_gives here strict.ResourceId vs =
    of_map type.Text j.text (option_and_then (resource_id here) (texts_in vs)) (λ s. refl)
placed_gives here strict.SubscriptionResourceId vs =
    of_map type.Text j.text (option_and_then (subscription_id here) (texts_in vs)) (λ s. refl)
placed_gives here strict.ResourceGroup vs = none_gives type.Object (object.resource_group here) vs refl
placed_gives here strict.Subscription vs = none_gives type.Object (object.subscription here) vs refl
placed_gives here strict.Deployment vs = none_gives type.Object (object.deployment here) vs refl
placed_gives here strict.Parameters vs = tt
placed_gives here strict.Variables vs = tt
placed_gives here strict.Reference vs = tt
placed_gives here strict.CopyIndex vs = tt

said_gives : (o : Said) (vs : List Json) → Gives (said_type o) (values.value_by o vs)
said_gives (Some (least, most, Some f)) vs =
    of_chosen (plain_type f) (admits least most (length vs)) (value_of f vs) None (plain_gives f vs) tt
said_gives (Some (least, most, None)) vs = tt
said_gives None vs = tt

named_gives : (here : Place) (name : List ℕ) (o : Option Strict) (vs : List Json)
    → Gives (type_by o (row_of name)) (value_by here name o vs)
named_gives here name (Some f) vs = placed_gives here f vs
named_gives here name None vs = said_gives (row_of name) vs

-- ---- whether a row says so

abbrev rank : ValueType → ℕ
rank type.Any = 0
rank type.Null = 1
rank type.Text = 2
rank type.Int = 3
rank type.Bool = 4
rank type.Object = 5
rank type.Array = 6

abbrev of_rank : ℕ → ValueType
of_rank zero = type.Any
of_rank (suc zero) = type.Null
of_rank (suc (suc zero)) = type.Text
of_rank (suc (suc (suc zero))) = type.Int
of_rank (suc (suc (suc (suc zero)))) = type.Bool
of_rank (suc (suc (suc (suc (suc zero))))) = type.Object
of_rank (suc (suc (suc (suc (suc (suc n)))))) = type.Array

ranked : (t : ValueType) → of_rank (rank t) ≡ t
ranked type.Any = refl
ranked type.Null = refl
ranked type.Text = refl
ranked type.Int = refl
ranked type.Bool = refl
ranked type.Object = refl
ranked type.Array = refl

same_ranks : (t u : ValueType) → (rank t == rank u) ≡ true → t ≡ u
same_ranks t u e = sym (ranked t) ∙ ap of_rank (eq_of_true (rank t) (rank u) e) ∙ ranked u

abbrev way_suits : ValueType → Option Signature → Bool
way_suits t None = true
way_suits t (Some s) = (rank s.value == 0) || (rank s.value == rank t)

abbrev suits : ValueType → Signatures → Bool
suits t w = way_suits t w.one && (way_suits t w.two && way_suits t w.three)

way_by : (t u : ValueType) (v : Json) (b : Bool) → (rank u == 0) ≡ b → (b || (rank u == rank t)) ≡ true
    → IsOfType t v → IsOfType u v
way_by t u v true is e h = subst (λ x. IsOfType x v) (sym (same_ranks u type.Any is)) tt
way_by t u v false is e h = subst (λ x. IsOfType x v) (sym (same_ranks u t e)) h

way_gives : (t : ValueType) (v : Json) (o : Option Signature) → way_suits t o ≡ true → IsOfType t v → WayGives v o
way_gives t v None e h = tt
way_gives t v (Some s) e h = way_by t s.value v (rank s.value == 0) refl e h

all_give : (t : ValueType) (v : Json) (w : Signatures) → suits t w ≡ true → IsOfType t v → AllGive v w
all_give t v w e h =
    let p = both _ _ e in
    let q = both _ _ p.1 in
    (way_gives t v w.one p.0 h, (way_gives t v w.two q.0 h, way_gives t v w.three q.1 h))

-- ---- what rows say

abbrev is_coalesce : List ℕ → Bool
is_coalesce name = is_same_folded (codes "coalesce") name

-- each value of the function of that name is as its ways say
abbrev pub Says : List ℕ → Signatures → Type 0
Says name w =
    ((v : Json) → AllGive v w)
    ⊎ ((is_coalesce name ≡ false) × ((here : Place) (vs : List Json) (v : Json)
    → value_by here name (placed_named name) vs ≡ Some v → IsAnswered v vs w))

unfoldable RowSays : List ℕ × Signatures → Type 0
RowSays r = Says r.0 r.1

-- all ways are of the type Any
anything : (r : List ℕ × Signatures) → suits type.Any r.1 ≡ true → RowSays r
unfolding RowSays
anything r e = inl (λ v. all_give type.Any v r.1 e tt)

-- all ways are of the type of all values
one_type : (r : List ℕ × Signatures) → is_coalesce r.0 ≡ false
    → suits (type_by (placed_named r.0) (row_of r.0)) r.1 ≡ true → RowSays r
unfolding RowSays
one_type r c e =
    inr (
      c,
      λ here vs v is. inl (all_give (type_by (placed_named r.0) (row_of r.0)) v r.1 e
          (given (type_by (placed_named r.0) (row_of r.0)) (value_by here r.0 (placed_named r.0) vs) v
          (named_gives here r.0 (placed_named r.0) vs) is)),
    )

union_says : RowSays (codes "union", of_either)
unfolding RowSays placed_named functions.table row_in value_of of_lists
union_says =
    inr (
      refl,
      λ here vs v is. inr (union_answers vs v
          (chosen_some (admits 1 None (length vs)) (members.union vs) v is).1),
    )

intersection_says : RowSays (codes "intersection", of_either)
unfolding RowSays placed_named functions.table row_in value_of of_lists
intersection_says =
    inr (
      refl,
      λ here vs v is. inr (intersection_answers vs v
          (chosen_some (admits 1 None (length vs)) (members.intersection vs) v is).1),
    )

-- whether a row of one type says so
abbrev row_ok : List ℕ × Signatures → Bool
row_ok r =
    suits type.Any r.1 || (not (is_coalesce r.0) && suits (type_by (placed_named r.0) (row_of r.0)) r.1)

ok_by : (r : List ℕ × Signatures) (b : Bool) (c : Bool) → suits type.Any r.1 ≡ b → is_coalesce r.0 ≡ c
    → (b || (not c && suits (type_by (placed_named r.0) (row_of r.0)) r.1)) ≡ true → RowSays r
ok_by r true c is here e = anything r is
ok_by r false true is here e = absurd (true≢false (sym e))
ok_by r false false is here e = one_type r here e

each_ok : (rs : List (List ℕ × Signatures)) → list_all row_ok rs ≡ true → AllByRecursion RowSays rs
each_ok [] e = tt
each_ok (r ∷ rs) e =
    let p = both (row_ok r) (list_all row_ok rs) e in
    (ok_by r (suits type.Any r.1) (is_coalesce r.0) refl refl p.0, each_ok rs p.1)

all_split : (n : ℕ) (rs : List (List ℕ × Signatures)) → AllByRecursion RowSays (take n rs)
    → AllByRecursion RowSays (drop n rs) → AllByRecursion RowSays rs
all_split zero rs h k = k
all_split (suc n) [] h k = tt
all_split (suc n) (r ∷ rs) h k = (h.0, all_split n rs h.1 k)

-- the rows of the table: those of one type before and after `union` and `intersection`
all_say : AllByRecursion RowSays table
unfolding table placed_named functions.table row_in
all_say =
    all_split 29 table (each_ok (take 29 table) refl)
    (union_says, (intersection_says, each_ok (drop 31 table) refl))

-- ---- whatever the case of a name's letters

abbrev Counted : Type 0
Counted = Option (ℕ × Option ℕ × Option Plain)

row_same : (a b : List ℕ) → fold a ≡ fold b → (rs : List Row) → row_in a rs ≡ row_in b rs
unfolding row_in
row_same a b e [] = refl
row_same a b e (r ∷ rs) =
    ap₂ (λ (x : List ℕ) (o : Counted). if bytes_eq x (fold r.0) then Some (r.1, r.2, r.3) else o) e (row_same a b e rs)

placed_same : (a b : List ℕ) → fold a ≡ fold b → placed_named a ≡ placed_named b
unfolding placed_named
placed_same a b e = rw e refl

value_same : (here : Place) (a b : List ℕ) → fold a ≡ fold b → (o : Option Strict) (vs : List Json)
    → value_by here a o vs ≡ value_by here b o vs
value_same here a b e (Some f) vs = refl
value_same here a b e None vs = ap (λ o. values.value_by o vs) (row_same a b e functions.table)

said_same : (a b : List ℕ) → fold a ≡ fold b → (w : Signatures) → Says b w → Says a w
said_same a b e w (inl h) = inl h
said_same a b e w (inr h) =
    inr (
      ap (λ (x : List ℕ). bytes_eq (fold (codes "coalesce")) x) e ∙ h.0,
      λ here vs v is. h.1 here vs v
          (sym (value_same here a b e (placed_named b) vs)
          ∙ sym (ap (λ o. value_by here a o vs) (placed_same a b e)) ∙ is),
    )

by_row : (name : List ℕ) (r : List ℕ × Signatures) (w : Signatures) (o : Option Signatures) → RowSays r
    → (o ≡ Some w → Says name w) → (b : Bool) → is_same_folded name r.0 ≡ b
    → or_else (if b then Some r.1 else None) o ≡ Some w → Says name w
unfolding RowSays
by_row name r w o h rest true is e =
    said_same name r.0 (eq_word (fold name) (fold r.0) is) w (subst (Says r.0) (same_Some r.1 w e) h)
by_row name r w o h rest false is e = rest e

in_rows : (name : List ℕ) (rs : List (List ℕ × Signatures)) (w : Signatures) → AllByRecursion RowSays rs
    → signatures_in name rs ≡ Some w → Says name w
in_rows name [] w h e = absurd (none-some w e)
in_rows name (r ∷ rs) w h e =
    by_row name r w (signatures_in name rs) h.0 (in_rows name rs w h.1) (is_same_folded name r.0) refl e

counted_some : (c : Option (ℕ × Option ℕ)) (n : ℕ) (o : Option Signatures) (w : Signatures)
    → where_counted c n o ≡ Some w → o ≡ Some w
counted_some None n o w e = absurd (none-some w e)
counted_some (Some c) n o w e = (chosen_some (admits c.0 c.1 n) o w e).1

-- each value of a function is as the ways to call it say
pub signatures_say : (name : List ℕ) (n : ℕ) (w : Signatures) → signatures_of name n ≡ Some w → Says name w
unfolding signatures_of
signatures_say name n w e =
    in_rows name table w all_say (counted_some (functions.counts name) n (signatures_in name table) w e)
