-- The values of expressions are of their types.
use Rattle.std.proofs.Common.{◌≡◌, ◌⊎◌, inl, inr, ℕ, zero, suc, Bool, true, false, true≢false, List, [], ◌∷◌, ◌++◌}
use Rattle.std.proofs.Common.{Option, Some, None, refl}
use Rattle.std.proofs.Common.{sym, ap, subst}
use Rattle.std.specs.Prelude.{codes, slice_get, Result, Ok, Err, if◌then◌else◌, is_some}
use Rattle.std.proofs.lemmas.Option.{none-some, same_Some}
use Rattle.arm_value.specs.Json.{Json, text}
use Rattle.arm_value.specs.Look.{is_same_folded}
use Rattle.arm_ids.specs.Id.{text_of}
use Rattle.arm_env.specs.Names.{placed_named}
use Rattle.arm_env.specs.Object.{object_of}
use Rattle.reading.specs.Reading.{done, pure, continued}
use Rattle.reading.specs.World.{value_in}
use Rattle.deploy_cells.specs.Cells.{World}
use Rattle.deploy_cells.specs.Guarded.{Reads}
use Rattle.bicep_tree.specs.declared.leaf.Indexing.{Indexing}
use Rattle.bicep_tree.specs.declared.leaf.Literal.{Literal}
use Rattle.bicep_tree.specs.declared.leaf.Literal.TheVariants as l
use Rattle.bicep_tree.specs.declared.leaf.Operator.{Operator}
use Rattle.bicep_tree.specs.declared.leaf.Operator.TheVariants as o
use Rattle.bicep_tree.specs.declared.leaf.Prefix.{Prefix}
use Rattle.bicep_tree.specs.declared.leaf.Prefix.TheVariants as prefix
use Rattle.bicep_resolved.specs.declared.leaf.Field.{Field}
use Rattle.bicep_resolved.specs.declared.leaf.Field.TheVariants as f
use Rattle.bicep_resolved.specs.declared.leaf.Meaning.{Meaning}
use Rattle.bicep_resolved.specs.declared.leaf.Meaning.TheVariants as m
use Rattle.bicep_resolved.specs.declared.leaf.Target.{Target}
use Rattle.bicep_resolved.specs.declared.leaf.Target.TheVariants as r
use Rattle.bicep_resolved.specs.Source.{SourceTree, SourceTrees, PieceTrees, ReachTree, PropertyTrees, ValueTree}
use Rattle.bicep_resolved.specs.Source as s
use Rattle.bicep_resolved.specs.Place.{offset, reach_offset}
use Rattle.bicep_resolved.specs.Target.{number_of, target_of}
use Rattle.bicep_signatures.specs.declared.kinds.Kinds.TheVariants as kinds
use Rattle.bicep_signatures.specs.declared.signature.Signatures.{Signatures}
use Rattle.bicep_signatures.specs.declared.value_type.ValueType.{ValueType}
use Rattle.bicep_signatures.specs.declared.value_type.ValueType.TheVariants as type
use Rattle.bicep_signatures.specs.Signatures.{left_after, result_of}
use Rattle.bicep_signatures.specs.Table.{signatures_of}
use Rattle.bicep_typing.specs.Typed.{Typed, always, wanted, or_place}
use Rattle.bicep_typing.specs.Operators.{literal_type, prefix_type, operator_type, conditional_type, member_type}
use Rattle.bicep_typing.specs.Operators.{element_type, each_type, equated, one_of}
use Rattle.bicep_typing.specs.Operators.{named_in, indexed_in, indexed_by, index_into}
use Rattle.bicep_typing.specs.Names.{Types, name_type, resource_field, module_field, field_type, output_type}
use Rattle.bicep_typing.specs.Typing.{type_of, arguments_left, members_fit, holes_fit, properties_fit, value_type}
use Rattle.bicep_typing.specs.Typing.{reach_fits, taken, value_of_ways, ways_at, count}
use Rattle.bicep_meaning.specs.Files.{type_of as type_text}
use Rattle.bicep_meaning.specs.Rows.{all, literal_value, operator_value, conditional_value, by_both, called}
use Rattle.bicep_meaning.specs.Rows.{prefix_value, coalesced, value_by, array_of, operated}
use Rattle.bicep_meaning.specs.Around.{Here, Frame, index_of, counted, runs, looped}
use Rattle.bicep_meaning.specs.Declared.{around}
use Rattle.bicep_meaning.specs.Meaning.{named, field_value, output_value, output_name, joined, values}
use Rattle.bicep_meaning.specs.Meaning.{texts, members, frames, value, value_of}
use Rattle.bicep_soundness.specs.Values.{IsOfType}
use Rattle.bicep_soundness.specs.Calls.{AllGive, IsAnswered}
use Rattle.bicep_soundness.specs.Entries.{type_at, IsOutputOf, AreTyped, AreCounting}
use Rattle.bicep_soundness.proofs.UnionLemmas.{given}
use Rattle.bicep_soundness.proofs.CommonLemmas.{common_left, common_right}
use Rattle.bicep_soundness.proofs.WayLemmas.{gives_after, answered_after, answered_type}
use Rattle.bicep_soundness.proofs.TableLemmas.{Says, signatures_say}
use Rattle.bicep_soundness.proofs.TypedLemmas.{same_Ok, never, always_is, before_is}
use Rattle.bicep_soundness.proofs.TypedLemmas.{both_of_is, one_of_is, compared_is}
use Rattle.bicep_soundness.proofs.ReadLemmas.{goes, capped_some, heads, no_heads}
use Rattle.bicep_soundness.proofs.OperatorLemmas.{operator_typed, prefix_gives_not, prefix_gives_minus, conditional_is}
use Rattle.bicep_soundness.proofs.OperatorLemmas.{and_typed, or_typed, coalesce_is, given_by}

-- a value that is itself of a type
itself : (t u : ValueType) (x v : Json) → t ≡ u → ◌≡◌ {A = Option Json} (Some x) (Some v) → IsOfType t x
    → IsOfType u v
itself t u x v e is h = subst (λ y. IsOfType y v) e (subst (IsOfType t) (same_Some x v is) h)

literal_typed : (x : Literal) → IsOfType (literal_type x) (literal_value x)
unfolding literal_type
literal_typed (l.Number z) = refl
literal_typed (l.Text t) = refl
literal_typed l.True = refl
literal_typed l.False = refl
literal_typed l.Null = refl

-- ---- loops

index_typed : (w : World) (fs : List Frame) (n : ℕ) (v : Json) → AreCounting w fs
    → value_in w (index_of (slice_get fs n)) ≡ Some v → IsOfType type.Int v
unfolding value_in
index_typed w [] n v h e = absurd (none-some v e)
index_typed w (x ∷ fs) zero v h e = h.0 v e
index_typed w (x ∷ fs) (suc n) v h e = index_typed w fs n v h.1 e

-- ---- ways to call a function

err_stays : (ts : Types) (es : SourceTrees) (at : ℕ) (w : Signatures) → arguments_left ts es (Err at) ≡ Ok w → ⊥
unfolding taken
err_stays ts s.none at w e = never at w e
err_stays ts (s.more x es) at w e = err_stays ts es at w e

ways_are : (c : Option Signatures) (at : ℕ) (w : Signatures) → ways_at c at ≡ Ok w → c ≡ Some w
unfolding ways_at
ways_are (Some x) at w e = ap (λ y. Some y) (same_Ok x w e)
ways_are None at w e = never at w e

result_is : (c : Option ValueType) (at : ℕ) (t : ValueType) → or_place c at ≡ Ok t → c ≡ Some t
result_is (Some x) at t e = ap (λ y. Some y) (same_Ok x t e)
result_is None at t e = never at t e

call_ways : (c : Result Signatures ℕ) (at : ℕ) (t : ValueType) → value_of_ways c at ≡ Ok t
    → (left : Signatures) × ((c ≡ Ok left) × (result_of left ≡ Some t))
unfolding value_of_ways
call_ways (Ok left) at t e = (left, (refl, result_is (result_of left) at t e))
call_ways (Err fault) at t e = never fault t e

ways_by : (ts : Types) (es : SourceTrees) (c : Option Signatures) (at : ℕ) (z : Result Signatures ℕ) (left : Signatures)
    → ways_at c at ≡ z → arguments_left ts es z ≡ Ok left
    → (ways : Signatures) × ((c ≡ Some ways) × (arguments_left ts es (Ok ways) ≡ Ok left))
ways_by ts es c at (Ok ways) left is e = (ways, (ways_are c at ways is, e))
ways_by ts es c at (Err fault) left is e = absurd (err_stays ts es fault left e)

-- the ways to call a function, and those that are left after its arguments
pub record Called (ts : Types) (name : List ℕ) (es : SourceTrees) (t : ValueType) : Type 0 where
  pub ways : Signatures
  pub left : Signatures
  pub are : signatures_of name (count es) ≡ Some ways
  pub after : arguments_left ts es (Ok ways) ≡ Ok left
  pub result : result_of left ≡ Some t

pub called_is : (ts : Types) (at : ℕ) (name : List ℕ) (es : SourceTrees) (t : ValueType)
    → type_of ts (s.call at name es) ≡ Ok t → Called ts name es t
called_is ts at name es t e =
    let c = ways_at (signatures_of name (count es)) at in
    let g = call_ways (arguments_left ts es c) at t e in
    let q = ways_by ts es (signatures_of name (count es)) at c g.0 refl g.1.0 in
    record { ways = q.0; left = g.0; are = q.1.0; after = q.1.1; result = g.1.1 }

-- an argument, where the others are taken
taken_by : (ts : Types) (es : SourceTrees) (rest left : Signatures) (at : ℕ) (b : Bool)
    → arguments_left ts es (if b then Ok rest else Err at) ≡ Ok left
    → (b ≡ true) × (arguments_left ts es (Ok rest) ≡ Ok left)
taken_by ts es rest left at true e = (refl, e)
taken_by ts es rest left at false e = absurd (err_stays ts es at left e)

-- the type of the first argument, and what the others leave
pub record TakesFirst (ts : Types) (es : SourceTrees) (ways left : Signatures) (c : Typed) : Type 0 where
  pub value : ValueType
  pub is : c ≡ Ok value
  pub some : is_some (result_of (left_after ways value)) ≡ true
  pub rest : arguments_left ts es (Ok (left_after ways value)) ≡ Ok left

pub takes_first : (ts : Types) (es : SourceTrees) (ways left : Signatures) (at : ℕ) (c : Typed)
    → arguments_left ts es (taken (Ok ways) at c) ≡ Ok left → TakesFirst ts es ways left c
unfolding taken
takes_first ts es ways left at (Ok u) e =
    let g = taken_by ts es (left_after ways u) left at (is_some (result_of (left_after ways u))) e in
    record { value = u; is = refl; some = g.0; rest = g.1 }
takes_first ts es ways left at (Err fault) e = absurd (err_stays ts es fault left e)

all_left : (ts : Types) (v : Json) (es : SourceTrees) (ways left : Signatures)
    → arguments_left ts es (Ok ways) ≡ Ok left → AllGive v ways → AllGive v left
all_left ts v s.none ways left e h = subst (AllGive v) (same_Ok ways left e) h
all_left ts v (s.more x es) ways left e h =
    let g = takes_first ts es ways left (offset x) (type_of ts x) e in
    all_left ts v es (left_after ways g.value) left g.rest (gives_after v g.value ways h)

not_chosen : (w : World) (b : Bool) (x y : Reads Json) (v : Json) → b ≡ false
    → value_in w (if b then x else y) ≡ Some v → value_in w y ≡ Some v
not_chosen w true x y v c e = absurd (true≢false c)
not_chosen w false x y v c e = e

-- ---- expressions

module _ (ts : Types) (here : Here) (w : World) (entries : AreTyped ts here w) (k : ℕ)
    (variables : (n : ℕ) (v : Json) → value_in w ((around here k).variable n) ≡ Some v → IsOfType (type_at ts n) v)
  where
    name_typed : (x : Meaning) (fs : List Frame) (v : Json) → AreCounting w fs
        → value_in w (named here (around here k) x fs) ≡ Some v → IsOfType (name_type ts.symbols x) v
    unfolding name_type
    name_typed (m.Parameter n) fs v h e = entries.parameters n v e
    name_typed (m.Variable n) fs v h e = variables n v e
    name_typed (m.Item n) fs v h e = tt
    name_typed (m.Index n) fs v h e = index_typed w fs n v h e

    anything : (t : ValueType) (v : Json) → type.Any ≡ t → IsOfType t v
    anything t v e = subst (λ x. IsOfType x v) e tt

    named_typed : (n : ℕ) (fs : List Frame) (t : ValueType) (v : Json) → type.Text ≡ t
        → value_in w ((around here k).name n fs) ≡ Some v → IsOfType t v
    named_typed n fs t v is e = subst (λ x. IsOfType x v) is (entries.names k n fs v e)

    resource_typed : (at n : ℕ) (x : Field) (fs : List Frame) (t : ValueType) (v : Json) → resource_field at x ≡ Ok t
        → value_in w (field_value here (around here k) n x fs) ≡ Some v → IsOfType t v
    unfolding value_in
    resource_typed at n f.Id fs t v is e =
        let g = goes w ((around here k).id n fs) (λ i. pure (text (text_of i))) v e in
        itself type.Text t (text (text_of g.value)) v (same_Ok type.Text t is) g.rest refl
    resource_typed at n f.Name fs t v is e = named_typed n fs t v (same_Ok type.Text t is) e
    resource_typed at n f.Type fs t v is e =
        itself type.Text t (text (type_text here.file n).kind) v (same_Ok type.Text t is) e refl
    resource_typed at n f.ApiVersion fs t v is e =
        itself type.Text t (text (type_text here.file n).version) v (same_Ok type.Text t is) e refl
    resource_typed at n f.Properties fs t v is e = anything t v (same_Ok type.Any t is)
    resource_typed at n f.Outputs fs t v is e = never at t is
    resource_typed at n (f.Other x) fs t v is e = anything t v (same_Ok type.Any t is)

    module_typed : (at n : ℕ) (x : Field) (fs : List Frame) (t : ValueType) (v : Json) → module_field at x ≡ Ok t
        → value_in w (field_value here (around here k) n x fs) ≡ Some v → IsOfType t v
    module_typed at n f.Id fs t v is e = never at t is
    module_typed at n f.Name fs t v is e = named_typed n fs t v (same_Ok type.Text t is) e
    module_typed at n f.Type fs t v is e = never at t is
    module_typed at n f.ApiVersion fs t v is e = never at t is
    module_typed at n f.Properties fs t v is e = never at t is
    module_typed at n f.Outputs fs t v is e = never at t is
    module_typed at n (f.Other x) fs t v is e = never at t is

    field_typed : (x : Target) (at : ℕ) (g : Field) (fs : List Frame) (t : ValueType) (v : Json)
        → field_type x at g ≡ Ok t → value_in w (field_value here (around here k) (number_of x) g fs) ≡ Some v
        → IsOfType t v
    unfolding field_type
    field_typed (r.Resource n) at g fs t v is e = resource_typed at n g fs t v is e
    field_typed (r.ResourceLoop n) at g fs t v is e = resource_typed at n g fs t v is e
    field_typed (r.Module n file) at g fs t v is e = module_typed at n g fs t v is e
    field_typed (r.ModuleLoop n file) at g fs t v is e = module_typed at n g fs t v is e

    output_typed : (x : Target) (at number : ℕ) (fs : List Frame) (t : ValueType) (v : Json)
        → output_type ts.outputs x at number ≡ Ok t
        → value_in w (output_value here (output_name here x number) ((around here k).name (number_of x) fs)) ≡ Some v
        → IsOfType t v
    output_typed x at number fs t v is e = subst (λ y. IsOutputOf y v) is (entries.outputs k x at number fs v e)

    -- the values of a reading are of a type
    abbrev AreOf : Typed → Reads Json → Type 0
    AreOf x p = (u : ValueType) → x ≡ Ok u → (v : Json) → value_in w p ≡ Some v → IsOfType u v

    one_typed : (x y : Typed) (p q : Reads Json) (t : ValueType) (v : Json) → one_of x y ≡ Ok t → AreOf x p → AreOf y q
        → (value_in w p ≡ Some v) ⊎ (value_in w q ≡ Some v) → IsOfType t v
    one_typed x y p q t v is hx hy (inl e) =
        let g = one_of_is x y t is in
        subst (λ z. IsOfType z v) g.whole (common_left g.left g.right v (hx g.left g.left_is v e))
    one_typed x y p q t v is hx hy (inr e) =
        let g = one_of_is x y t is in
        subst (λ z. IsOfType z v) g.whole (common_right g.left g.right v (hy g.right g.right_is v e))

    given_typed : (op : Operator) (p q : Reads Json) (t : ValueType) (v : Json) → given_by op ≡ t
        → value_in w (by_both (operator_value op) p q) ≡ Some v → IsOfType t v
    given_typed op p q t v is e = subst (λ x. IsOfType x v) is (operator_typed w op p q v e)

    equated_is : (x y : Typed) (t : ValueType) → equated x y ≡ Ok t → type.Bool ≡ t
    equated_is x y t is = (always_is type.Bool y t (before_is x (always type.Bool y) t is).1).0

    binary_typed : (op : Operator) (a b : ℕ) (x y : Typed) (p q : Reads Json) (t : ValueType) (v : Json)
        → operator_type op a x b y ≡ Ok t → AreOf x p → AreOf y q → value_in w (operated op p q) ≡ Some v → IsOfType t v
    unfolding operator_type
    binary_typed o.Coalesce a b x y p q t v is hx hy e = one_typed x y p q t v is hx hy (coalesce_is w p q v e)
    binary_typed o.Or a b x y p q t v is hx hy e =
        subst (λ z. IsOfType z v) (both_of_is kinds.Bool type.Bool a x b y t is).0 (or_typed w p q v e)
    binary_typed o.And a b x y p q t v is hx hy e =
        subst (λ z. IsOfType z v) (both_of_is kinds.Bool type.Bool a x b y t is).0 (and_typed w p q v e)
    binary_typed o.Equals a b x y p q t v is hx hy e = given_typed o.Equals p q t v (equated_is x y t is) e
    binary_typed o.NotEquals a b x y p q t v is hx hy e = given_typed o.NotEquals p q t v (equated_is x y t is) e
    binary_typed o.EqualsInsensitive a b x y p q t v is hx hy e =
        given_typed o.EqualsInsensitive p q t v (both_of_is kinds.Text type.Bool a x b y t is).0 e
    binary_typed o.NotEqualsInsensitive a b x y p q t v is hx hy e =
        given_typed o.NotEqualsInsensitive p q t v (both_of_is kinds.Text type.Bool a x b y t is).0 e
    binary_typed o.Less a b x y p q t v is hx hy e = given_typed o.Less p q t v (compared_is a b x y t is).0 e
    binary_typed o.LessOrEqual a b x y p q t v is hx hy e =
        given_typed o.LessOrEqual p q t v (compared_is a b x y t is).0 e
    binary_typed o.Greater a b x y p q t v is hx hy e = given_typed o.Greater p q t v (compared_is a b x y t is).0 e
    binary_typed o.GreaterOrEqual a b x y p q t v is hx hy e =
        given_typed o.GreaterOrEqual p q t v (compared_is a b x y t is).0 e
    binary_typed o.Add a b x y p q t v is hx hy e =
        given_typed o.Add p q t v (both_of_is kinds.Int type.Int a x b y t is).0 e
    binary_typed o.Subtract a b x y p q t v is hx hy e =
        given_typed o.Subtract p q t v (both_of_is kinds.Int type.Int a x b y t is).0 e
    binary_typed o.Multiply a b x y p q t v is hx hy e =
        given_typed o.Multiply p q t v (both_of_is kinds.Int type.Int a x b y t is).0 e
    binary_typed o.Divide a b x y p q t v is hx hy e =
        given_typed o.Divide p q t v (both_of_is kinds.Int type.Int a x b y t is).0 e
    binary_typed o.Remainder a b x y p q t v is hx hy e =
        given_typed o.Remainder p q t v (both_of_is kinds.Int type.Int a x b y t is).0 e

    prefix_typed : (op : Prefix) (at : ℕ) (x : Typed) (r : Reads Json) (t : ValueType) (v : Json)
        → prefix_type op at x ≡ Ok t → value_in w (continued r (λ u. done (prefix_value op u))) ≡ Some v → IsOfType t v
    unfolding prefix_type value_in
    prefix_typed prefix.Not at x r t v is e =
        let g = goes w r (λ u. done (prefix_value prefix.Not u)) v e in
        subst (λ z. IsOfType z v) (always_is type.Bool (wanted kinds.Bool at x) t is).0
        (given type.Bool (prefix_value prefix.Not g.value) v (prefix_gives_not g.value) g.rest)
    prefix_typed prefix.Negate at x r t v is e =
        let g = goes w r (λ u. done (prefix_value prefix.Negate u)) v e in
        subst (λ z. IsOfType z v) (always_is type.Int (wanted kinds.Int at x) t is).0
        (given type.Int (prefix_value prefix.Negate g.value) v (prefix_gives_minus g.value) g.rest)

    conditional_typed : (at : ℕ) (c x y : Typed) (r p q : Reads Json) (t : ValueType) (v : Json)
        → conditional_type at c x y ≡ Ok t → AreOf x p → AreOf y q → value_in w (conditional_value r p q) ≡ Some v
        → IsOfType t v
    unfolding conditional_type
    conditional_typed at c x y r p q t v is hx hy e =
        one_typed x y p q t v (before_is (wanted kinds.Bool at c) (one_of x y) t is).1 hx hy
        (conditional_is w r p q v e)

    indexed_is : (i : Indexing) (x y : Typed) (b : ℕ) (t : ValueType) → indexed_by i x b y ≡ Ok t → type.Any ≡ t
    indexed_is i (Ok u) y b t is = (always_is type.Any (wanted (index_into i u) b y) t is).0
    indexed_is i (Err at) y b t is = never at t is

    -- what the ways that are left say of the value of a call, by what its arguments leave of an answer
    called_by : (name : List ℕ) (es : SourceTrees) (rs : List (Reads Json)) (v : Json) (ways left : Signatures)
        → value_in w (called here.place name rs) ≡ Some v → arguments_left ts es (Ok ways) ≡ Ok left → Says name ways
        → ((vs : List Json) → value_in w (all rs) ≡ Some vs → IsAnswered v vs ways → IsAnswered v [] left)
        → IsAnswered v [] left
    unfolding called value_in
    called_by name es rs v ways left e after (inl h) rest = inl (all_left ts v es ways left after (h v))
    called_by name es rs v ways left e after (inr h) rest =
        let g = goes w (all rs) (λ vs. done (value_by here.place name (placed_named name) vs)) v
        (not_chosen w (is_same_folded (codes "coalesce") name) (coalesced rs)
        (continued (all rs) (λ vs. done (value_by here.place name (placed_named name) vs))) v h.0 e) in
        rest g.value g.is (h.1 here.place g.value v g.rest)

    call_typed : (at : ℕ) (name : List ℕ) (es : SourceTrees) (rs : List (Reads Json)) (t : ValueType) (v : Json)
        → type_of ts (s.call at name es) ≡ Ok t → value_in w (called here.place name rs) ≡ Some v
        → ((ways left : Signatures) (vs : List Json) → arguments_left ts es (Ok ways) ≡ Ok left
        → value_in w (all rs) ≡ Some vs → IsAnswered v vs ways → IsAnswered v [] left) → IsOfType t v
    call_typed at name es rs t v is e rest =
        let c = called_is ts at name es t is in
        answered_type v c.left t
        (called_by name es rs v c.ways c.left e c.after (signatures_say name (count es) c.ways c.are)
        (λ vs are x. rest c.ways c.left vs c.after are x)) c.result

    mutual
      unfolding value_in member_type element_type

      pub sound : (e : SourceTree) (fs : List Frame) (t : ValueType) (v : Json) → AreCounting w fs
          → type_of ts e ≡ Ok t → value_in w (value here (around here k) e fs) ≡ Some v → IsOfType t v
      sound (s.name at x) fs t v h is e =
          subst (λ y. IsOfType y v) (same_Ok (name_type ts.symbols x) t is) (name_typed x fs v h (capped_some w _ v e))
      sound (s.literal at x) fs t v h is e =
          itself (literal_type x) t (literal_value x) v (same_Ok (literal_type x) t is) (capped_some w _ v e)
          (literal_typed x)
      sound (s.interpolated at front ps) fs t v h is e =
          let g = goes w (all (texts here (around here k) ps fs)) (λ xs. pure (text (front ++ joined xs))) v
          (capped_some w _ v e) in
          itself type.Text t (text (front ++ joined g.value)) v (always_is type.Text (holes_fit ts ps) t is).0 g.rest
          refl
      sound (s.object at ps) fs t v h is e =
          let g = goes w (all (members here (around here k) ps fs)) (λ ms. pure (object_of ms)) v
          (capped_some w _ v e) in
          itself type.Object t (object_of g.value) v (always_is type.Object (properties_fit ts ps) t is).0 g.rest refl
      sound (s.array at es) fs t v h is e =
          let g = goes w (all (values here (around here k) es fs)) (λ vs. pure (array_of vs)) v (capped_some w _ v e) in
          itself type.Array t (array_of g.value) v (always_is type.Array (members_fit ts es) t is).0 g.rest refl
      sound (s.call at name es) fs t v h is e =
          call_typed at name es (values here (around here k) es fs) t v is (capped_some w _ v e)
          (λ ways left vs after are x. sound_arguments es fs ways left vs v h after are x)
      sound (s.instance x) fs t v h is e = never (reach_offset x) t is
      sound (s.field x at g) fs t v h is e =
          field_typed (target_of x) at g (frames here (around here k) x fs) t v
          (before_is (reach_fits ts x) (field_type (target_of x) at g) t is).1 (capped_some w _ v e)
      sound (s.output x at number) fs t v h is e =
          output_typed (target_of x) at number (frames here (around here k) x fs) t v
          (before_is (reach_fits ts x) (output_type ts.outputs (target_of x) at number) t is).1 (capped_some w _ v e)
      sound (s.member x kind n) fs t v h is e =
          anything t v (always_is type.Any (wanted (named_in kind) (offset x) (type_of ts x)) t is).0
      sound (s.index x kind i) fs t v h is e =
          anything t v
          (indexed_is kind (wanted (indexed_in kind) (offset x) (type_of ts x)) (type_of ts i) (offset i) t is)
      sound (s.prefixed at op x) fs t v h is e =
          prefix_typed op (offset x) (type_of ts x) (value here (around here k) x fs) t v is (capped_some w _ v e)
      sound (s.binary op x y) fs t v h is e =
          binary_typed op (offset x) (offset y) (type_of ts x) (type_of ts y) (value here (around here k) x fs)
          (value here (around here k) y fs) t v is (λ u ok b c. sound x fs u b h ok c)
          (λ u ok b c. sound y fs u b h ok c)
          (capped_some w _ v e)
      sound (s.conditional c x y) fs t v h is e =
          conditional_typed (offset c) (type_of ts c) (type_of ts x) (type_of ts y) (value here (around here k) c fs)
          (value here (around here k) x fs) (value here (around here k) y fs) t v is
          (λ u ok b d. sound x fs u b h ok d) (λ u ok b d. sound y fs u b h ok d) (capped_some w _ v e)

      sound_arguments : (es : SourceTrees) (fs : List Frame) (ways left : Signatures) (vs : List Json) (v : Json)
          → AreCounting w fs → arguments_left ts es (Ok ways) ≡ Ok left
          → value_in w (all (values here (around here k) es fs)) ≡ Some vs → IsAnswered v vs ways → IsAnswered v [] left
      sound_arguments s.none fs ways left vs v h is e x =
          subst (IsAnswered v []) (same_Ok ways left is) (subst (λ l. IsAnswered v l ways) (sym (no_heads w vs e)) x)
      sound_arguments (s.more y es) fs ways left vs v h is e x =
          let c = heads w (value here (around here k) y fs) (values here (around here k) es fs) vs e in
          let g = takes_first ts es ways left (offset y) (type_of ts y) is in
          sound_arguments es fs (left_after ways g.value) left c.tail v h g.rest c.others
          (answered_after v c.head c.tail g.value ways (sound y fs g.value c.head h g.is c.first)
          (subst (λ l. IsAnswered v l ways) (sym c.is) x))

    -- the value of a variable, an output or a property
    pub sound_value : (x : ValueTree) (fs : List Frame) (t : ValueType) (v : Json) → AreCounting w fs
        → value_type ts x ≡ Ok t → value_in w (value_of here (around here k) x fs) ≡ Some v → IsOfType t v
    unfolding value_in each_type looped
    sound_value (s.plain e) fs t v h is g = sound e fs t v h is g
    sound_value (s.each (s.loop at over) e) fs t v h is g =
        let body = λ (x : Frame). value here (around here k) e (x ∷ fs) in
        let xs = value here (around here k) over fs in
        let c = goes w (counted xs) (λ n. continued (all (runs body xs 0 n)) (λ vs. pure (array_of vs))) v
        (capped_some w _ v g) in
        let d = goes w (all (runs body xs 0 c.value)) (λ vs. pure (array_of vs)) v c.rest in
        itself type.Array t (array_of d.value) v
        (always_is type.Array (type_of ts e)
        t (before_is (wanted kinds.Array (offset over) (type_of ts over)) (always type.Array (type_of ts e)) t is).1).0
        d.rest refl
