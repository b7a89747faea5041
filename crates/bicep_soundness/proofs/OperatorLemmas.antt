-- What operators give is of a type.
use Rattle.std.proofs.Common.{◌≡◌, ◌⊎◌, inl, inr, Bool, true, false, [], ◌∷◌, Option, Some, None, refl, subst, ◌∙◌}
use Rattle.std.specs.Prelude.{pos, option_map}
use Rattle.std.proofs.lemmas.Option.{none-some, same_Some}
use Rattle.arm_value.specs.Json.{Json}
use Rattle.arm_value.specs.Json as j
use Rattle.function_numbers.specs.Kinds.{truth_of}
use Rattle.function_numbers.specs.Logic as logic
use Rattle.reading.specs.Reading.{done, pure}
use Rattle.reading.specs.World.{value_in}
use Rattle.deploy_cells.specs.Cells.{World}
use Rattle.deploy_cells.specs.Guarded.{Reads}
use Rattle.bicep_tree.specs.declared.leaf.Operator.{Operator}
use Rattle.bicep_tree.specs.declared.leaf.Operator.TheVariants as o
use Rattle.bicep_tree.specs.declared.leaf.Prefix.TheVariants as prefix
use Rattle.bicep_signatures.specs.declared.value_type.ValueType.{ValueType}
use Rattle.bicep_signatures.specs.declared.value_type.ValueType.TheVariants as type
use Rattle.bicep_meaning.specs.Rows.{same_folded, opposite, operator_value, chosen, conditional_value, truth, and_value}
use Rattle.bicep_meaning.specs.Rows.{or_value, or_if_null, coalesce_value, by_both, prefix_value}
use Rattle.bicep_soundness.specs.Values.{IsOfType, Gives}
use Rattle.bicep_soundness.proofs.GivesLemmas.{of_map, of_then, not_is, equals_is, compares_is, of_numbers_is}
use Rattle.bicep_soundness.proofs.UnionLemmas.{given}
use Rattle.bicep_soundness.proofs.ReadLemmas.{goes, by_both_some}

same_folded_is : (x y : Json) → Gives type.Bool (same_folded x y)
same_folded_is (j.text s) (j.text t) = refl
same_folded_is (j.text s) j.null = tt
same_folded_is (j.text s) (j.bool b) = tt
same_folded_is (j.text s) (j.int z) = tt
same_folded_is (j.text s) (j.array vs) = tt
same_folded_is (j.text s) (j.object ms) = tt
same_folded_is j.null y = tt
same_folded_is (j.bool b) y = tt
same_folded_is (j.int z) y = tt
same_folded_is (j.array vs) y = tt
same_folded_is (j.object ms) y = tt

opposite_is : (x : Option Json) → Gives type.Bool (opposite x)
opposite_is x = of_then type.Bool (λ v. logic.not (v ∷ [])) x (λ v. not_is (v ∷ []))

-- the type of what an operator gives that looks at both operands
abbrev pub given_by : Operator → ValueType
given_by o.Coalesce = type.Any
given_by o.Or = type.Bool
given_by o.And = type.Bool
given_by o.Equals = type.Bool
given_by o.NotEquals = type.Bool
given_by o.EqualsInsensitive = type.Bool
given_by o.NotEqualsInsensitive = type.Bool
given_by o.Less = type.Bool
given_by o.LessOrEqual = type.Bool
given_by o.Greater = type.Bool
given_by o.GreaterOrEqual = type.Bool
given_by o.Add = type.Int
given_by o.Subtract = type.Int
given_by o.Multiply = type.Int
given_by o.Divide = type.Int
given_by o.Remainder = type.Int

operator_gives : (op : Operator) (x y : Json) → Gives (given_by op) (operator_value op x y)
unfolding operator_value
operator_gives o.Coalesce x y = tt
operator_gives o.Or x y = tt
operator_gives o.And x y = tt
operator_gives o.Equals x y = equals_is (x ∷ y ∷ [])
operator_gives o.NotEquals x y = opposite_is (logic.equals (x ∷ y ∷ []))
operator_gives o.EqualsInsensitive x y = same_folded_is x y
operator_gives o.NotEqualsInsensitive x y = opposite_is (same_folded x y)
operator_gives o.Less x y = compares_is _ (x ∷ y ∷ [])
operator_gives o.LessOrEqual x y = compares_is _ (x ∷ y ∷ [])
operator_gives o.Greater x y = compares_is _ (x ∷ y ∷ [])
operator_gives o.GreaterOrEqual x y = compares_is _ (x ∷ y ∷ [])
operator_gives o.Add x y = of_numbers_is _ (x ∷ y ∷ [])
operator_gives o.Subtract x y = of_numbers_is _ (x ∷ y ∷ [])
operator_gives o.Multiply x y = of_numbers_is _ (x ∷ y ∷ [])
operator_gives o.Divide x y = of_numbers_is _ (x ∷ y ∷ [])
operator_gives o.Remainder x y = of_numbers_is _ (x ∷ y ∷ [])

pub prefix_gives_not : (x : Json) → Gives type.Bool (prefix_value prefix.Not x)
prefix_gives_not x = not_is (x ∷ [])

pub prefix_gives_minus : (x : Json) → Gives type.Int (prefix_value prefix.Negate x)
prefix_gives_minus x = of_numbers_is _ (j.int (pos 0) ∷ x ∷ [])

module _ (w : World) where
  pub operator_typed : (op : Operator) (a b : Reads Json) (v : Json)
      → value_in w (by_both (operator_value op) a b) ≡ Some v → IsOfType (given_by op) v
  operator_typed op a b v e =
      let r = by_both_some w (operator_value op) a b v e in
      given (given_by op) (operator_value op r.0.0 r.0.1) v (operator_gives op r.0.0 r.0.1) r.1

  -- `c ? a : b` has the value of one of both
  chosen_is : (b : Option Bool) (x y : Reads Json) (v : Json) → value_in w (chosen b x y) ≡ Some v
      → (value_in w x ≡ Some v) ⊎ (value_in w y ≡ Some v)
  unfolding value_in
  chosen_is (Some true) x y v e = inl e
  chosen_is (Some false) x y v e = inr e
  chosen_is None x y v e = absurd (none-some v e)

  pub conditional_is : (c x y : Reads Json) (v : Json) → value_in w (conditional_value c x y) ≡ Some v
      → (value_in w x ≡ Some v) ⊎ (value_in w y ≡ Some v)
  unfolding conditional_value
  conditional_is c x y v e =
      let g = goes w c (λ u. chosen (truth_of u) x y) v e in chosen_is (truth_of g.value) x y v g.rest

  truth_is : (r : Reads Json) (v : Json) → value_in w (truth r) ≡ Some v → IsOfType type.Bool v
  unfolding truth value_in
  truth_is r v e =
      let g = goes w r (λ u. done (option_map j.bool (truth_of u))) v e in
      given type.Bool (option_map j.bool (truth_of g.value)) v (of_map type.Bool j.bool (truth_of g.value) (λ b. refl))
      g.rest

  bool_is : (b : Bool) (v : Json) → value_in w (pure (j.bool b)) ≡ Some v → IsOfType type.Bool v
  unfolding value_in
  bool_is b v e = subst (λ x. IsOfType type.Bool x) (same_Some (j.bool b) v e) refl

  pub and_typed : (a b : Reads Json) (v : Json) → value_in w (and_value a b) ≡ Some v → IsOfType type.Bool v
  unfolding and_value
  and_typed a b v e =
      elim (conditional_is a (truth b) (pure (j.bool false)) v e) [ inl p ↦ truth_is b v p | inr p ↦ bool_is false v p ]

  pub or_typed : (a b : Reads Json) (v : Json) → value_in w (or_value a b) ≡ Some v → IsOfType type.Bool v
  unfolding or_value
  or_typed a b v e =
      elim (conditional_is a (pure (j.bool true)) (truth b) v e) [ inl p ↦ bool_is true v p | inr p ↦ truth_is b v p ]

  or_if_null_is : (x : Json) (a b : Reads Json) (v : Json) → value_in w a ≡ Some x
      → value_in w (or_if_null x b) ≡ Some v → (value_in w a ≡ Some v) ⊎ (value_in w b ≡ Some v)
  unfolding value_in
  or_if_null_is j.null a b v is e = inr e
  or_if_null_is (j.bool x) a b v is e = inl (is ∙ e)
  or_if_null_is (j.int z) a b v is e = inl (is ∙ e)
  or_if_null_is (j.text s) a b v is e = inl (is ∙ e)
  or_if_null_is (j.array xs) a b v is e = inl (is ∙ e)
  or_if_null_is (j.object ms) a b v is e = inl (is ∙ e)

  -- `a ?? b` has the value of one of both
  pub coalesce_is : (a b : Reads Json) (v : Json) → value_in w (coalesce_value a b) ≡ Some v
      → (value_in w a ≡ Some v) ⊎ (value_in w b ≡ Some v)
  unfolding coalesce_value
  coalesce_is a b v e =
      let g = goes w a (λ u. or_if_null u b) v e in or_if_null_is g.value a b v g.is g.rest
