-- The one type of two.
use Rattle.std.proofs.Common.{◌≡◌, ◌⊎◌, inl, inr, true, true≢false, refl, sym, subst}
use Rattle.arm_value.specs.Json.{Json}
use Rattle.bicep_signatures.specs.declared.kinds.Kinds.{Kinds}
use Rattle.bicep_signatures.specs.declared.kinds.Kinds.TheVariants as k
use Rattle.bicep_signatures.specs.declared.value_type.ValueType.{ValueType}
use Rattle.bicep_signatures.specs.declared.value_type.ValueType.TheVariants as type
use Rattle.bicep_signatures.specs.Kinds.{fits}
use Rattle.bicep_signatures.specs.Types.{common}
use Rattle.bicep_soundness.specs.Values.{type_of_value, IsOfType}

same_or_any : (t u : ValueType) → (t ≡ u) ⊎ (common t u ≡ type.Any)
same_or_any type.Any u = inr refl
same_or_any type.Null type.Any = inr refl
same_or_any type.Null type.Null = inl refl
same_or_any type.Null type.Text = inr refl
same_or_any type.Null type.Int = inr refl
same_or_any type.Null type.Bool = inr refl
same_or_any type.Null type.Object = inr refl
same_or_any type.Null type.Array = inr refl
same_or_any type.Text type.Any = inr refl
same_or_any type.Text type.Null = inr refl
same_or_any type.Text type.Text = inl refl
same_or_any type.Text type.Int = inr refl
same_or_any type.Text type.Bool = inr refl
same_or_any type.Text type.Object = inr refl
same_or_any type.Text type.Array = inr refl
same_or_any type.Int type.Any = inr refl
same_or_any type.Int type.Null = inr refl
same_or_any type.Int type.Text = inr refl
same_or_any type.Int type.Int = inl refl
same_or_any type.Int type.Bool = inr refl
same_or_any type.Int type.Object = inr refl
same_or_any type.Int type.Array = inr refl
same_or_any type.Bool type.Any = inr refl
same_or_any type.Bool type.Null = inr refl
same_or_any type.Bool type.Text = inr refl
same_or_any type.Bool type.Int = inr refl
same_or_any type.Bool type.Bool = inl refl
same_or_any type.Bool type.Object = inr refl
same_or_any type.Bool type.Array = inr refl
same_or_any type.Object type.Any = inr refl
same_or_any type.Object type.Null = inr refl
same_or_any type.Object type.Text = inr refl
same_or_any type.Object type.Int = inr refl
same_or_any type.Object type.Bool = inr refl
same_or_any type.Object type.Object = inl refl
same_or_any type.Object type.Array = inr refl
same_or_any type.Array type.Any = inr refl
same_or_any type.Array type.Null = inr refl
same_or_any type.Array type.Text = inr refl
same_or_any type.Array type.Int = inr refl
same_or_any type.Array type.Bool = inr refl
same_or_any type.Array type.Object = inr refl
same_or_any type.Array type.Array = inl refl

common_self : (t : ValueType) → common t t ≡ t
common_self type.Any = refl
common_self type.Null = refl
common_self type.Text = refl
common_self type.Int = refl
common_self type.Bool = refl
common_self type.Object = refl
common_self type.Array = refl

-- the type is Any, or that of the value itself
pub any_or_own : (t : ValueType) (v : Json) → IsOfType t v → (t ≡ type.Any) ⊎ (type_of_value v ≡ t)
any_or_own type.Any v h = inl refl
any_or_own type.Null v h = inr h
any_or_own type.Text v h = inr h
any_or_own type.Int v h = inr h
any_or_own type.Bool v h = inr h
any_or_own type.Object v h = inr h
any_or_own type.Array v h = inr h

any_fits : (ks : Kinds) (t : ValueType) → fits ks t ≡ true → fits ks type.Any ≡ true
any_fits k.Nothing t e = absurd (true≢false (sym e))
any_fits k.Anything t e = refl
any_fits k.Text t e = refl
any_fits k.Int t e = refl
any_fits k.Bool t e = refl
any_fits k.Object t e = refl
any_fits k.Array t e = refl
any_fits k.TextOrInt t e = refl
any_fits k.TextOrArray t e = refl
any_fits k.ObjectOrArray t e = refl
any_fits k.TextIntOrBool t e = refl
any_fits k.TextObjectOrArray t e = refl
any_fits k.NullObjectOrArray t e = refl
any_fits k.AllButIntAndBool t e = refl

pub common_left : (t u : ValueType) (v : Json) → IsOfType t v → IsOfType (common t u) v
common_left t u v h =
    elim (same_or_any t u) [
      | inl same ↦ subst (λ x. IsOfType (common t x) v) same (subst (λ x. IsOfType x v) (sym (common_self t)) h)
      | inr any ↦ subst (λ x. IsOfType x v) (sym any) tt
    ]

pub common_right : (t u : ValueType) (v : Json) → IsOfType u v → IsOfType (common t u) v
common_right t u v h =
    elim (same_or_any t u) [
      | inl same ↦ subst (λ x. IsOfType (common x u) v) (sym same) (subst (λ x. IsOfType x v) (sym (common_self u)) h)
      | inr any ↦ subst (λ x. IsOfType x v) (sym any) tt
    ]

-- where kinds of values are taken that have the value, its type is taken as well
pub fits_type : (ks : Kinds) (t : ValueType) (v : Json) → IsOfType t v → fits ks (type_of_value v) ≡ true
    → fits ks t ≡ true
fits_type ks t v h e =
    elim (any_or_own t v h) [
      | inl any ↦ subst (λ x. fits ks x ≡ true) (sym any) (any_fits ks (type_of_value v) e)
      | inr own ↦ subst (λ x. fits ks x ≡ true) own e
    ]

-- where its type is taken, the value is of the kinds, unless the type is Any
pub fits_value : (ks : Kinds) (t : ValueType) (v : Json) → IsOfType t v → fits ks t ≡ true
    → (fits ks (type_of_value v) ≡ true) ⊎ (t ≡ type.Any)
fits_value ks t v h e =
    elim (any_or_own t v h) [
      | inl any ↦ inr any
      | inr own ↦ inl (subst (λ x. fits ks x ≡ true) (sym own) e)
    ]
