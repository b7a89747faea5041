-- Types that are found along an order are those of the symbols.
use Rattle.std.proofs.Common.{◌≡◌, ◌<◌, ◌⊎◌, inl, inr, ℕ, zero, suc, List, [], ◌∷◌, length, map, get_or, refl, sym}
use Rattle.std.proofs.Common.{ap, subst, ◌∙◌, arith, set, drop}
use Rattle.std.specs.Prelude.{slice_get}
use Rattle.std.proofs.lemmas.Bool.{cases_eq}
use Rattle.std.proofs.lemmas.List.{length-set, length-map}
use Rattle.foundation.proofs.Comparisons.{lt_suc_or_is}
use Rattle.bicep_names.specs.declared.kind.Kind.{Kind}
use Rattle.bicep_declared.specs.declared.declared.Declared.{Declared}
use Rattle.bicep_declared.specs.Declarations.{DeclaredTree}
use Rattle.bicep_declared.specs.View.{declared_tree}
use Rattle.bicep_circles.specs.Links.{links}
use Rattle.bicep_circles.specs.Orders.{IsLinkOrder}
use Rattle.bicep_signatures.specs.declared.value_type.ValueType.{ValueType}
use Rattle.bicep_typing.specs.Names.{known}
use Rattle.bicep_symbol_types.specs.SymbolTypes.{symbol_type, with_outputs, AreTypes, symbol_types}
use Rattle.bicep_symbol_types.specs.Along.{type_by, renewed, types_along, any, none_known}
use Rattle.bicep_symbol_types.proofs.AgreeLemmas.{AgreeAt}
use Rattle.bicep_symbol_types.proofs.ListLemmas.{set_here, set_other, same_lists, step_at, peeled}
use Rattle.bicep_symbol_types.proofs.ListLemmas.{all_peeled}
use Rattle.bicep_symbol_types.proofs.SettleLemmas.{length-links, same_next, are_settled}

length-along : (os : List (List ValueType)) (ds : List DeclaredTree) (ns : List ℕ) (xs : List ValueType)
    → length (types_along os ds ns xs) ≡ length xs
unfolding types_along
length-along os ds [] xs = refl
length-along os ds (n ∷ ns) xs =
    length-along os ds ns (renewed os ds n xs) ∙ length-set xs n (type_by os xs (slice_get ds n))

module _ (os : List (List ValueType)) (ks : List Kind) (ds : List DeclaredTree) (order : List ℕ)
    (many : length ks ≡ length ds) (o : IsLinkOrder (links ks ds) order) (ts : List ValueType)
    (are : AreTypes os ds ts) where
  abbrev Found : ℕ → List ValueType → Type 0
  Found i xs = (j : ℕ) → j < i → AgreeAt xs ts (get_or order j 0)

  size : length ts ≡ length ds
  size = sym (ap length are) ∙ length-map ds (symbol_type (with_outputs os ts))

  -- the type that is found next
  next_type : (i : ℕ) → i < length order → (xs : List ValueType) → length xs ≡ length ds → Found i xs
      → type_by os xs (slice_get ds (get_or order i 0)) ≡ known (slice_get ts (get_or order i 0))
  next_type i h xs e found =
      same_next os ks ds order many o xs ts (omega (arith, e)) (let s = size in omega (arith, s)) i h found
      ∙ sym (step_at os ds ts (get_or order i 0)) ∙ ap (λ ys. known (slice_get ys (get_or order i 0))) are

  place : (i n : ℕ) → i < length order → get_or order i 0 ≡ n → n < length ds
  place i n h e = let p = o.nodes i h in let s = length-links ks ds many in omega (arith, p, s, e)

  kept : (n : ℕ) (x : ValueType) (xs : List ValueType) → n < length xs → x ≡ known (slice_get ts n)
      → (m : ℕ) → (m ≡ n) ⊎ ((m ≡ n → ⊥) × AgreeAt xs ts m) → AgreeAt (set xs n x) ts m
  kept n x xs h e m (inl same) =
      subst (λ k. AgreeAt (set xs n x) ts k) (sym same) (set_here xs n x h ∙ e)
  kept n x xs h e m (inr other) = set_other xs n m x other.0 ∙ other.1

  either : (i n : ℕ) (xs : List ValueType) → get_or order i 0 ≡ n → Found i xs → (j : ℕ) → (j < i) ⊎ (j ≡ i)
      → (get_or order j 0 ≡ n) ⊎ (get_or order j 0 ≡ n → ⊥)
      → (get_or order j 0 ≡ n) ⊎ ((get_or order j 0 ≡ n → ⊥) × AgreeAt xs ts (get_or order j 0))
  either i n xs e found j p (inl same) = inl same
  either i n xs e found j (inl p) (inr other) = inr (other, found j p)
  either i n xs e found j (inr p) (inr other) = inl (ap (λ k. get_or order k 0) p ∙ e)

  found_next : (i n : ℕ) (xs : List ValueType) → i < length order → get_or order i 0 ≡ n → length xs ≡ length ds
      → Found i xs → Found (suc i) (renewed os ds n xs)
  found_next i n xs h e size_xs found j w =
      let p = place i n h e in
      kept n (type_by os xs (slice_get ds n)) xs (omega (arith, p, size_xs))
      (subst (λ k. type_by os xs (slice_get ds k) ≡ known (slice_get ts k)) e (next_type i h xs size_xs found))
      (get_or order j 0)
      (either i n xs e found j (lt_suc_or_is j i w) (cases_eq (get_or order j 0) n))

  along : (ns : List ℕ) (i : ℕ) (xs : List ValueType) → drop i order ≡ ns → length xs ≡ length ds → Found i xs
      → Found (length order) (types_along os ds ns xs)
  unfolding types_along
  along [] i xs e size_xs found =
      λ j h. let all = all_peeled order i e in found j (omega (arith, h, all))
  along (n ∷ ns) i xs e size_xs found =
      let p = peeled order i n ns e in
      along ns (suc i) (renewed os ds n xs) p.2
      (length-set xs n (type_by os xs (slice_get ds n)) ∙ size_xs)
      (found_next i n xs p.0 p.1 size_xs found)

  all_along : (xs : List ValueType) → length xs ≡ length ds → types_along os ds order xs ≡ ts
  all_along xs size_xs =
      same_lists (types_along os ds order xs) ts (length-along os ds order xs ∙ size_xs ∙ sym size)
      (λ n h. let s = length-along os ds order xs in
      let l = length-links ks ds many in
      let among = o.all n (omega (arith, h, s, l, size_xs)) in
      subst (AgreeAt (types_along os ds order xs) ts) among.2
      (along order 0 xs refl size_xs (λ j w. absurd (omega (arith, w))) among.0 among.1))

-- the types along an order
pub are_along : (os : List (List ValueType)) (ks : List Kind) (ds : List DeclaredTree) (order : List ℕ)
    → length ks ≡ length ds → IsLinkOrder (links ks ds) order
    → types_along os ds order (none_known ds) ≡ symbol_types os ds
are_along os ks ds order many o =
    all_along os ks ds order many o (symbol_types os ds) (are_settled os ks ds order many o) (none_known ds)
    (length-map ds any)

pub many_trees : (ks : List Kind) (ds : List Declared) → length ks ≡ length ds
    → length ks ≡ length (map declared_tree ds)
many_trees ks ds e = e ∙ sym (length-map ds declared_tree)
