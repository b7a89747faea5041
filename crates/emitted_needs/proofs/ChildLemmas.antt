-- Keys of children, as deletions are ordered by them.
use Rattle.std.proofs.Common.{◌≡◌, ℕ, suc, length, true, ◌&&◌, List, [], ◌∷◌, ◌++◌, sym, ap, ◌∙◌, arith}
use Rattle.std.specs.Prelude.{nat_eq}
use Rattle.std.proofs.lemmas.List.{length-append, nil_from_length}
use Rattle.foundation.proofs.Comparisons.{eq_of_true, eq_true}
use Rattle.foundation.proofs.TruthValues.{both, and_true}
use Rattle.arm_ids.specs.Parent.{begins, IsParent}
use Rattle.arm_ids.specs.declared.id.ResourceId.{ResourceId}
use Rattle.arm_ids.proofs.FrontLemmas.{begun, front_rest, parent_begins}
use Rattle.plan_cells.specs.Meaning.{Deployment}
use Rattle.plan_cells.specs.Needs.{is_child}

one_of : (xs : List (List ℕ)) → length xs ≡ 1 → (x : List ℕ) × (xs ≡ x ∷ [])
one_of [] e = absurd (omega (arith, e))
one_of (x ∷ xs) e = (x, ap (λ r. x ∷ r) (nil_from_length xs (omega (arith, e))))

one_more : (xs ys : List (List ℕ)) (x : List ℕ) → ys ≡ xs ++ x ∷ [] → length ys ≡ suc (length xs)
one_more xs ys x e = omega (arith, ap length e, length-append xs (x ∷ []))

one_longer : (xs ys rest : List (List ℕ)) → ys ≡ xs ++ rest → length ys ≡ suc (length xs) → length rest ≡ 1
one_longer xs ys rest e l = omega (arith, ap length e, length-append xs rest, l)

module _ (t : Deployment) where
  pub child_forth : (k child : ResourceId) → IsParent k child → is_child t k child ≡ true
  child_forth k child (kind, more) =
      and_true (begins k child)
      (nat_eq (length child.types) (suc (length k.types)) && nat_eq (length child.names) (suc (length k.names)))
      (parent_begins k child (kind, more)).0
      (and_true (nat_eq (length child.types) (suc (length k.types)))
      (nat_eq (length child.names) (suc (length k.names)))
      (eq_true (length child.types) (suc (length k.types))
      (one_more k.types child.types kind (ap (λ (i : ResourceId). i.types) more.1)))
      (eq_true (length child.names) (suc (length k.names))
      (one_more k.names child.names more.0 (ap (λ (i : ResourceId). i.names) more.1))))

  pub child_back : (k child : ResourceId) → is_child t k child ≡ true → IsParent k child
  child_back k child e =
      let a = both (begins k child)
      (nat_eq (length child.types) (suc (length k.types)) && nat_eq (length child.names) (suc (length k.names))) e in
      let b = both (nat_eq (length child.types) (suc (length k.types)))
      (nat_eq (length child.names) (suc (length k.names))) a.1 in
      let h = begun k child a.0 in
      let types = front_rest k.types child.types h.types in
      let names = front_rest k.names child.names h.names in
      let kind =
      one_of types.0 (one_longer k.types child.types types.0 types.1
      (eq_of_true (length child.types) (suc (length k.types)) b.0)) in
      let name =
      one_of names.0 (one_longer k.names child.names names.0 names.1
      (eq_of_true (length child.names) (suc (length k.names)) b.1)) in (
        kind.0,
        (
          name.0,
          λ j. record {
            subscription = sym h.subscription j;
            group = sym h.group j;
            types = (types.1 ∙ ap (λ r. k.types ++ r) kind.1) j;
            names = (names.1 ∙ ap (λ r. k.names ++ r) name.1) j;
          },
        ),
      )
