-- No operation in an expression that has a type meets a value of a wrong kind.
use Rattle.std.proofs.Common.{◌≡◌, ◌⊎◌, inl, inr, ℕ, true, List, ◌∷◌, Some, refl, sym, ap, subst, ◌∙◌}
use Rattle.std.specs.Prelude.{pos, is_some, Ok, Err}
use Rattle.std.proofs.lemmas.Option.{same_Some}
use Rattle.arm_value.specs.Json.{Json, int}
use Rattle.reading.specs.World.{value_in}
use Rattle.deploy_cells.specs.Cells.{World}
use Rattle.deploy_cells.specs.Guarded.{Reads}
use Rattle.bicep_tree.specs.declared.leaf.Indexing.{Indexing}
use Rattle.bicep_tree.specs.declared.leaf.Indexing.TheVariants as i
use Rattle.bicep_tree.specs.declared.leaf.Operator.{Operator}
use Rattle.bicep_tree.specs.declared.leaf.Operator.TheVariants as o
use Rattle.bicep_tree.specs.declared.leaf.Prefix.{Prefix}
use Rattle.bicep_tree.specs.declared.leaf.Prefix.TheVariants as prefix
use Rattle.bicep_resolved.specs.declared.leaf.Target.{Target}
use Rattle.bicep_resolved.specs.declared.leaf.Target.TheVariants as r
use Rattle.bicep_resolved.specs.Source.{SourceTree, SourceTrees, PieceTrees, ReachTree, PropertyTrees, ValueTree}
use Rattle.bicep_resolved.specs.Source as s
use Rattle.bicep_resolved.specs.Place.{offset, reach_offset}
use Rattle.bicep_resolved.specs.Target.{target_of}
use Rattle.bicep_signatures.specs.declared.kinds.Kinds.{Kinds}
use Rattle.bicep_signatures.specs.declared.kinds.Kinds.TheVariants as kinds
use Rattle.bicep_signatures.specs.declared.signature.Signatures.{Signatures}
use Rattle.bicep_signatures.specs.declared.value_type.ValueType.{ValueType}
use Rattle.bicep_signatures.specs.declared.value_type.ValueType.TheVariants as type
use Rattle.bicep_signatures.specs.Kinds.{fits}
use Rattle.bicep_signatures.specs.Signatures.{left_after, result_of}
use Rattle.bicep_typing.specs.Typed.{Typed, all_fit, always, wanted}
use Rattle.bicep_typing.specs.Operators.{prefix_type, operator_type, conditional_type, member_type, element_type}
use Rattle.bicep_typing.specs.Operators.{each_type, equated, one_of, comparable, named_in, indexed_in, indexed_by}
use Rattle.bicep_typing.specs.Operators.{index_into}
use Rattle.bicep_typing.specs.Names.{Types, field_type, output_type}
use Rattle.bicep_typing.specs.Typing.{type_of, arguments_left, members_fit, holes_fit, properties_fit, value_type}
use Rattle.bicep_typing.specs.Typing.{reach_fits, element_of}
use Rattle.bicep_meaning.specs.Around.{Here, Frame, element, run_at}
use Rattle.bicep_meaning.specs.Declared.{around}
use Rattle.bicep_meaning.specs.Meaning.{value}
use Rattle.bicep_soundness.specs.Values.{IsOfType, IsOfKinds}
use Rattle.bicep_soundness.specs.Suited as suited
use Rattle.bicep_soundness.specs.Entries.{AreCounting, type_at, AreTyped}
use Rattle.bicep_soundness.proofs.CommonLemmas.{any_or_own, fits_value}
use Rattle.bicep_soundness.proofs.TypedLemmas.{never, same_Ok, Has, Takes, Compared, always_is, before_is, takes}
use Rattle.bicep_soundness.proofs.TypedLemmas.{wanted_is, both_of_is, one_of_is, compared_is}
use Rattle.bicep_soundness.proofs.SoundLemmas.{sound, called_is, TakesFirst, takes_first}

-- ---- kinds

text_or_int : (t : ValueType) → fits kinds.Text t ≡ true → fits kinds.TextOrInt t ≡ true
text_or_int type.Any e = refl
text_or_int type.Null e = e
text_or_int type.Text e = refl
text_or_int type.Int e = refl
text_or_int type.Bool e = e
text_or_int type.Object e = e
text_or_int type.Array e = e

int_or_text : (t : ValueType) → fits kinds.Int t ≡ true → fits kinds.TextOrInt t ≡ true
int_or_text type.Any e = refl
int_or_text type.Null e = e
int_or_text type.Text e = refl
int_or_text type.Int e = refl
int_or_text type.Bool e = e
int_or_text type.Object e = e
int_or_text type.Array e = e

-- what may be compared is a text or a whole number
compared_kinds : (u t : ValueType) → fits (comparable u) t ≡ true → fits kinds.TextOrInt t ≡ true
compared_kinds type.Any t e = e
compared_kinds type.Null t e = e
compared_kinds type.Text t e = text_or_int t e
compared_kinds type.Int t e = int_or_text t e
compared_kinds type.Bool t e = e
compared_kinds type.Object t e = e
compared_kinds type.Array t e = e

-- an index is a text or a whole number
index_kinds : (x : Indexing) (u t : ValueType) → fits (index_into x u) t ≡ true → fits kinds.TextOrInt t ≡ true
index_kinds i.Plain type.Any t e = e
index_kinds i.Plain type.Null t e = e
index_kinds i.Plain type.Text t e = e
index_kinds i.Plain type.Int t e = e
index_kinds i.Plain type.Bool t e = e
index_kinds i.Plain type.Object t e = text_or_int t e
index_kinds i.Plain type.Array t e = int_or_text t e
index_kinds i.Safe type.Any t e = e
index_kinds i.Safe type.Null t e = e
index_kinds i.Safe type.Text t e = e
index_kinds i.Safe type.Int t e = e
index_kinds i.Safe type.Bool t e = e
index_kinds i.Safe type.Object t e = e
index_kinds i.Safe type.Array t e = e

-- an index into a part that has a type
pub record Indexed (x : Indexing) (c y : Typed) : Type 0 where
  pub part : Takes (indexed_in x) c
  pub index : Takes (index_into x part.value) y

indexed_part : (x : Indexing) (a : ℕ) (c : Typed) (b : ℕ) (y z : Typed) (t : ValueType)
    → wanted (indexed_in x) a c ≡ z → indexed_by x z b y ≡ Ok t → Indexed x c y
indexed_part x a c b y (Ok u) t is e =
    let g = wanted_is (indexed_in x) a c u is in
    let q = always_is type.Any (wanted (index_into x u) b y) t e in
    record { part = record { value = u; is = g.0; fits = g.1 }; index = takes (index_into x u) b y q.1 }
indexed_part x a c b y (Err at) t is e = never at t e

element_index : (at : ℕ) (x : Target) (b : ℕ) (y : Typed) (u : Unit {0}) → element_of at x b y ≡ Ok u
    → Takes kinds.Int y
unfolding element_of
element_index at (r.Resource n) b y u e = never at u e
element_index at (r.Module n file) b y u e = never at u e
element_index at (r.ResourceLoop n) b y u e =
    takes kinds.Int b y (before_is (wanted kinds.Int b y) all_fit u e).0
element_index at (r.ModuleLoop n file) b y u e =
    takes kinds.Int b y (before_is (wanted kinds.Int b y) all_fit u e).0

run_counts : (w : World) (xs : Reads Json) (n : ℕ) (fs : List Frame) → AreCounting w fs
    → AreCounting w (run_at xs n ∷ fs)
unfolding element value_in
run_counts w xs n fs h = (λ v e. subst (λ x. IsOfType type.Int x) (same_Some (int (pos n)) v e) refl, h)

has : (ks : Kinds) (x : Typed) → Takes ks x → Has x
has ks x g = record { value = g.value; is = g.is }

has_both : (ks : Kinds) (x y : Typed) → Takes ks x → Takes ks y → Has x × Has y
has_both ks x y p q = (has ks x p, has ks y q)

has_compared : (x y : Typed) → Compared x y → Has x × Has y
has_compared x y g = (has kinds.TextOrInt x g.left, has (comparable g.left.value) y g.right)

has_equated : (x y : Typed) (t : ValueType) → equated x y ≡ Ok t → Has x × Has y
has_equated x y t e =
    let g = before_is x (always type.Bool y) t e in (g.0, (always_is type.Bool y t g.1).1)

-- ---- operations

module _ (ts : Types) (here : Here) (w : World) (entries : AreTyped ts here w) (k : ℕ)
    (variables : (n : ℕ) (v : Json) → value_in w ((around here k).variable n) ≡ Some v → IsOfType (type_at ts n) v)
  where
    abbrev Meets : Kinds → SourceTree → List Frame → Type 0
    Meets = suited.Meets ts here (around here k) w

    meets : (ks : Kinds) (e : SourceTree) (fs : List Frame) (u : ValueType) → AreCounting w fs → type_of ts e ≡ Ok u
        → fits ks u ≡ true → Meets ks e fs
    meets ks e fs u h is fit =
        λ v x. elim (fits_value ks u v (sound ts here w entries k variables e fs u v h is x) fit) [
          | inl p ↦ inl p
          | inr any ↦ inr (is ∙ ap (λ t. Ok t) any)
        ]

    taking : (ks : Kinds) (e : SourceTree) (fs : List Frame) → AreCounting w fs → Takes ks (type_of ts e)
        → Meets ks e fs
    taking ks e fs h g = meets ks e fs g.value h g.is g.fits

    both_meet : (ks : ValueType → Kinds) (x y : SourceTree) (fs : List Frame) (t u : ValueType) → AreCounting w fs
        → type_of ts x ≡ Ok t → type_of ts y ≡ Ok u → fits (ks t) u ≡ true
        → suited.MeetsBoth ts here (around here k) w ks x y fs
    both_meet ks x y fs t u h is also fit =
        λ a b p q. elim (any_or_own t a (sound ts here w entries k variables x fs t a h is p)) [
          | inl any ↦ inr (inl (is ∙ ap (λ z. Ok z) any))
          | inr own ↦ elim (fits_value (ks t) u b (sound ts here w entries k variables y fs u b h also q) fit) [
            | inl f ↦ inl (subst (λ z. IsOfKinds (ks z) b) (sym own) f)
            | inr any ↦ inr (inr (also ∙ ap (λ z. Ok z) any))
          ]
        ]

    alike : (ks : Kinds) (x y : SourceTree) (fs : List Frame) → AreCounting w fs → Takes ks (type_of ts x)
        → Takes ks (type_of ts y) → suited.Alike ts here (around here k) w ks x y fs
    alike ks x y fs h p q = (taking ks x fs h p, taking ks y fs h q)

    comparing : (x y : SourceTree) (fs : List Frame) → AreCounting w fs → Compared (type_of ts x) (type_of ts y)
        → suited.Comparable ts here (around here k) w x y fs
    comparing x y fs h g = (
      taking kinds.TextOrInt x fs h g.left,
      meets kinds.TextOrInt y fs g.right.value h g.right.is (compared_kinds g.left.value g.right.value g.right.fits),
      both_meet comparable x y fs g.left.value g.right.value h g.left.is g.right.is g.right.fits,
    )

    operands : (op : Operator) (a b : ℕ) (x y : SourceTree) (fs : List Frame) (t : ValueType) → AreCounting w fs
        → operator_type op a (type_of ts x) b (type_of ts y) ≡ Ok t
        → suited.OperandsMeet ts here (around here k) w op x y fs
    unfolding operator_type
    operands o.Coalesce a b x y fs t h e = tt
    operands o.Or a b x y fs t h e =
        let g = both_of_is kinds.Bool type.Bool a (type_of ts x) b (type_of ts y) t e in
        alike kinds.Bool x y fs h g.1 g.2
    operands o.And a b x y fs t h e =
        let g = both_of_is kinds.Bool type.Bool a (type_of ts x) b (type_of ts y) t e in
        alike kinds.Bool x y fs h g.1 g.2
    operands o.Equals a b x y fs t h e = tt
    operands o.NotEquals a b x y fs t h e = tt
    operands o.EqualsInsensitive a b x y fs t h e =
        let g = both_of_is kinds.Text type.Bool a (type_of ts x) b (type_of ts y) t e in
        alike kinds.Text x y fs h g.1 g.2
    operands o.NotEqualsInsensitive a b x y fs t h e =
        let g = both_of_is kinds.Text type.Bool a (type_of ts x) b (type_of ts y) t e in
        alike kinds.Text x y fs h g.1 g.2
    operands o.Less a b x y fs t h e = comparing x y fs h (compared_is a b (type_of ts x) (type_of ts y) t e).1
    operands o.LessOrEqual a b x y fs t h e = comparing x y fs h (compared_is a b (type_of ts x) (type_of ts y) t e).1
    operands o.Greater a b x y fs t h e = comparing x y fs h (compared_is a b (type_of ts x) (type_of ts y) t e).1
    operands o.GreaterOrEqual a b x y fs t h e =
        comparing x y fs h (compared_is a b (type_of ts x) (type_of ts y) t e).1
    operands o.Add a b x y fs t h e =
        let g = both_of_is kinds.Int type.Int a (type_of ts x) b (type_of ts y) t e in
        alike kinds.Int x y fs h g.1 g.2
    operands o.Subtract a b x y fs t h e =
        let g = both_of_is kinds.Int type.Int a (type_of ts x) b (type_of ts y) t e in
        alike kinds.Int x y fs h g.1 g.2
    operands o.Multiply a b x y fs t h e =
        let g = both_of_is kinds.Int type.Int a (type_of ts x) b (type_of ts y) t e in
        alike kinds.Int x y fs h g.1 g.2
    operands o.Divide a b x y fs t h e =
        let g = both_of_is kinds.Int type.Int a (type_of ts x) b (type_of ts y) t e in
        alike kinds.Int x y fs h g.1 g.2
    operands o.Remainder a b x y fs t h e =
        let g = both_of_is kinds.Int type.Int a (type_of ts x) b (type_of ts y) t e in
        alike kinds.Int x y fs h g.1 g.2

    -- both operands have types
    both_typed : (op : Operator) (a b : ℕ) (x y : Typed) (t : ValueType) → operator_type op a x b y ≡ Ok t
        → Has x × Has y
    unfolding operator_type
    both_typed o.Coalesce a b x y t e =
        let g = one_of_is x y t e in
        (record { value = g.left; is = g.left_is }, record { value = g.right; is = g.right_is })
    both_typed o.Or a b x y t e = has_both kinds.Bool x y (both_of_is kinds.Bool type.Bool a x b y t e).1
        (both_of_is kinds.Bool type.Bool a x b y t e).2
    both_typed o.And a b x y t e = has_both kinds.Bool x y (both_of_is kinds.Bool type.Bool a x b y t e).1
        (both_of_is kinds.Bool type.Bool a x b y t e).2
    both_typed o.Equals a b x y t e = has_equated x y t e
    both_typed o.NotEquals a b x y t e = has_equated x y t e
    both_typed o.EqualsInsensitive a b x y t e = has_both kinds.Text x y (both_of_is kinds.Text type.Bool a x b y t e).1
        (both_of_is kinds.Text type.Bool a x b y t e).2
    both_typed o.NotEqualsInsensitive a b x y t e =
        has_both kinds.Text x y (both_of_is kinds.Text type.Bool a x b y t e).1
        (both_of_is kinds.Text type.Bool a x b y t e).2
    both_typed o.Less a b x y t e = has_compared x y (compared_is a b x y t e).1
    both_typed o.LessOrEqual a b x y t e = has_compared x y (compared_is a b x y t e).1
    both_typed o.Greater a b x y t e = has_compared x y (compared_is a b x y t e).1
    both_typed o.GreaterOrEqual a b x y t e = has_compared x y (compared_is a b x y t e).1
    both_typed o.Add a b x y t e = has_both kinds.Int x y (both_of_is kinds.Int type.Int a x b y t e).1
        (both_of_is kinds.Int type.Int a x b y t e).2
    both_typed o.Subtract a b x y t e = has_both kinds.Int x y (both_of_is kinds.Int type.Int a x b y t e).1
        (both_of_is kinds.Int type.Int a x b y t e).2
    both_typed o.Multiply a b x y t e = has_both kinds.Int x y (both_of_is kinds.Int type.Int a x b y t e).1
        (both_of_is kinds.Int type.Int a x b y t e).2
    both_typed o.Divide a b x y t e = has_both kinds.Int x y (both_of_is kinds.Int type.Int a x b y t e).1
        (both_of_is kinds.Int type.Int a x b y t e).2
    both_typed o.Remainder a b x y t e = has_both kinds.Int x y (both_of_is kinds.Int type.Int a x b y t e).1
        (both_of_is kinds.Int type.Int a x b y t e).2

    prefix_takes : (op : Prefix) (at : ℕ) (x : SourceTree) (fs : List Frame) (t : ValueType) → AreCounting w fs
        → prefix_type op at (type_of ts x) ≡ Ok t
        → suited.OperandMeets ts here (around here k) w op x fs × Has (type_of ts x)
    unfolding prefix_type
    prefix_takes prefix.Not at x fs t h e =
        let g = takes kinds.Bool at (type_of ts x)
        (always_is type.Bool (wanted kinds.Bool at (type_of ts x)) t e).1 in
        (taking kinds.Bool x fs h g, has kinds.Bool (type_of ts x) g)
    prefix_takes prefix.Negate at x fs t h e =
        let g = takes kinds.Int at (type_of ts x) (always_is type.Int (wanted kinds.Int at (type_of ts x)) t e).1 in
        (taking kinds.Int x fs h g, has kinds.Int (type_of ts x) g)

    -- each argument is taken by one of the ways that are left before it
    next_taken : (e : SourceTree) (es : SourceTrees) (fs : List Frame) (ways left : Signatures) → AreCounting w fs
        → TakesFirst ts es ways left (type_of ts e) → (v : Json) → value_in w (value here (around here k) e fs) ≡ Some v
        → suited.TakesNext ways v ⊎ suited.IsAny ts here (around here k) w e
    next_taken e es fs ways left h g v x =
        elim (any_or_own g.value v (sound ts here w entries k variables e fs g.value v h g.is x)) [
          | inl any ↦ inr (g.is ∙ ap (λ t. Ok t) any)
          | inr own ↦ inl (subst (λ t. is_some (result_of (left_after ways t)) ≡ true) (sym own) g.some)
        ]

    arguments : (es : SourceTrees) (fs : List Frame) (ways left : Signatures) → AreCounting w fs
        → arguments_left ts es (Ok ways) ≡ Ok left → suited.ArgumentsMeet ts here (around here k) w (Some ways) es fs
    arguments s.none fs ways left h e = tt
    arguments (s.more x es) fs ways left h e =
        let g = takes_first ts es ways left (offset x) (type_of ts x) e in (
          next_taken x es fs ways left h g,
          λ t is. arguments es fs (left_after ways t) left h
              (subst (λ u. arguments_left ts es (Ok (left_after ways u)) ≡ Ok left)
              (same_Ok g.value t (sym g.is ∙ is)) g.rest),
        )

    mutual
      unfolding member_type element_type conditional_type each_type

      pub expression_suited : (e : SourceTree) (fs : List Frame) (t : ValueType) → AreCounting w fs
          → type_of ts e ≡ Ok t → suited.IsSuited ts here (around here k) w e fs
      expression_suited (s.name at x) fs t h e = tt
      expression_suited (s.literal at v) fs t h e = tt
      expression_suited (s.interpolated at front ps) fs t h e =
          let g = (always_is type.Text (holes_fit ts ps) t e).1 in holes_suited ps fs g.value h g.is
      expression_suited (s.object at ps) fs t h e =
          let g = (always_is type.Object (properties_fit ts ps) t e).1 in properties_suited ps fs g.value h g.is
      expression_suited (s.array at es) fs t h e =
          let g = (always_is type.Array (members_fit ts es) t e).1 in members_suited es fs g.value h g.is
      expression_suited (s.call at name es) fs t h e =
          let g = called_is ts at name es t e in (
            subst (λ c. suited.ArgumentsMeet ts here (around here k) w c es fs) (sym g.are)
                (arguments es fs g.ways g.left h g.after),
            arguments_suited es fs g.ways g.left h g.after,
          )
      expression_suited (s.instance x) fs t h e = never (reach_offset x) t e
      expression_suited (s.field x at f) fs t h e =
          let g = (before_is (reach_fits ts x) (field_type (target_of x) at f) t e).0 in
          reach_suited x fs g.value h g.is
      expression_suited (s.output x at number) fs t h e =
          let g = (before_is (reach_fits ts x) (output_type ts.outputs (target_of x) at number) t e).0 in
          reach_suited x fs g.value h g.is
      expression_suited (s.member x kind n) fs t h e =
          let g = takes (named_in kind) (offset x) (type_of ts x)
          (always_is type.Any (wanted (named_in kind) (offset x) (type_of ts x)) t e).1 in
          (taking (named_in kind) x fs h g, expression_suited x fs g.value h g.is)
      expression_suited (s.index x kind y) fs t h e =
          let g = indexed_part kind (offset x) (type_of ts x) (offset y) (type_of ts y)
          (wanted (indexed_in kind) (offset x) (type_of ts x)) t refl e in (
            taking (indexed_in kind) x fs h g.part,
            meets kinds.TextOrInt y fs g.index.value h g.index.is
                (index_kinds kind g.part.value g.index.value g.index.fits),
            both_meet (index_into kind) x y fs g.part.value g.index.value h g.part.is g.index.is g.index.fits,
            expression_suited x fs g.part.value h g.part.is,
            expression_suited y fs g.index.value h g.index.is,
          )
      expression_suited (s.prefixed at op x) fs t h e =
          let g = prefix_takes op (offset x) x fs t h e in (g.0, expression_suited x fs g.1.value h g.1.is)
      expression_suited (s.binary op x y) fs t h e =
          let g = both_typed op (offset x) (offset y) (type_of ts x) (type_of ts y) t e in (
            operands op (offset x) (offset y) x y fs t h e,
            expression_suited x fs g.0.value h g.0.is,
            expression_suited y fs g.1.value h g.1.is,
          )
      expression_suited (s.conditional c x y) fs t h e =
          let p = before_is (wanted kinds.Bool (offset c) (type_of ts c)) (one_of (type_of ts x) (type_of ts y)) t e in
          let b = takes kinds.Bool (offset c) (type_of ts c) p.0 in
          let g = one_of_is (type_of ts x) (type_of ts y) t p.1 in (
            taking kinds.Bool c fs h b,
            expression_suited c fs b.value h b.is,
            expression_suited x fs g.left h g.left_is,
            expression_suited y fs g.right h g.right_is,
          )

      arguments_suited : (es : SourceTrees) (fs : List Frame) (ways left : Signatures) → AreCounting w fs
          → arguments_left ts es (Ok ways) ≡ Ok left → suited.AllSuited ts here (around here k) w es fs
      arguments_suited s.none fs ways left h e = tt
      arguments_suited (s.more x es) fs ways left h e =
          let g = takes_first ts es ways left (offset x) (type_of ts x) e in (
            expression_suited x fs g.value h g.is,
            arguments_suited es fs (left_after ways g.value) left h g.rest,
          )

      members_suited : (es : SourceTrees) (fs : List Frame) (u : Unit {0}) → AreCounting w fs
          → members_fit ts es ≡ Ok u → suited.AllSuited ts here (around here k) w es fs
      members_suited s.none fs u h e = tt
      members_suited (s.more x es) fs u h e =
          let g = before_is (type_of ts x) (members_fit ts es) u e in
          (expression_suited x fs g.0.value h g.0.is, members_suited es fs u h g.1)

      holes_suited : (ps : PieceTrees) (fs : List Frame) (u : Unit {0}) → AreCounting w fs
          → holes_fit ts ps ≡ Ok u → suited.HolesSuited ts here (around here k) w ps fs
      holes_suited s.no_piece fs u h e = tt
      holes_suited (s.piece x after ps) fs u h e =
          let g = before_is (type_of ts x) (holes_fit ts ps) u e in
          (expression_suited x fs g.0.value h g.0.is, holes_suited ps fs u h g.1)

      properties_suited : (ps : PropertyTrees) (fs : List Frame) (u : Unit {0}) → AreCounting w fs
          → properties_fit ts ps ≡ Ok u → suited.PropertiesSuited ts here (around here k) w ps fs
      properties_suited s.no_property fs u h e = tt
      properties_suited (s.property at name x ps) fs u h e =
          let g = before_is (value_type ts x) (properties_fit ts ps) u e in
          (value_suited x fs g.0.value h g.0.is, properties_suited ps fs u h g.1)

      pub value_suited : (x : ValueTree) (fs : List Frame) (t : ValueType) → AreCounting w fs → value_type ts x ≡ Ok t
          → suited.ValueSuited ts here (around here k) w x fs
      value_suited (s.plain e) fs t h is = expression_suited e fs t h is
      value_suited (s.each (s.loop at over) e) fs t h is =
          let p = before_is (wanted kinds.Array (offset over) (type_of ts over)) (always type.Array (type_of ts e)) t
          is in
          let g = takes kinds.Array (offset over) (type_of ts over) p.0 in
          let b = (always_is type.Array (type_of ts e) t p.1).1 in (
            taking kinds.Array over fs h g,
            expression_suited over fs g.value h g.is,
            λ n. expression_suited e (run_at (value here (around here k) over fs) n ∷ fs) b.value
                (run_counts w (value here (around here k) over fs) n fs h) b.is,
          )

      reach_suited : (x : ReachTree) (fs : List Frame) (u : Unit {0}) → AreCounting w fs → reach_fits ts x ≡ Ok u
          → suited.ReachSuited ts here (around here k) w x fs
      reach_suited (s.symbol at x) fs u h e = tt
      reach_suited (s.element at x y) fs u h e =
          let g = element_index at x (offset y) (type_of ts y) u e in
          (taking kinds.Int y fs h g, expression_suited y fs g.value h g.is)
