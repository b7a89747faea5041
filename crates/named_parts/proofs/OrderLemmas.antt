-- Parts with one more in its place are in order.
use Rattle.std.proofs.Common.{◌≡◌, ◌≤◌, ℕ, suc, Bool, true, false, true≢false, List, [], ◌∷◌, length, map}
use Rattle.std.proofs.Common.{Some, None, Ordering, Less, Equal, Greater, refl, sym, ap, ◌∙◌, arith}
use Rattle.std.proofs.Common.{encode_utf8_all, bytes_eq}
use Rattle.std.specs.Prelude.{if◌then◌else◌}
use Rattle.std.specs.Cmp.{IsTotalOrder}
use Rattle.std.specs.List.{AllByRecursion, insert}
use Rattle.std.specs.List.Sorted.{IsStrictlySortedBy}
use Rattle.std.specs.Ordering.{match_ordering, ordering_reverse}
use Rattle.std.proofs.lemmas.Cmp.{nat_list_cmp_total, on_total}
use Rattle.std.proofs.lemmas.Map.Lookups.{exact_bytes}
use Rattle.std.proofs.lemmas.Slice.Eq.{bytes_eq-Decides}
use Rattle.std.proofs.lemmas.Str.{encodes_same}
use Rattle.arm_value.specs.Json.{key_cmp}
use Rattle.arm_value.specs.Look.{fold}
use Rattle.named_parts.specs.Found.{found}
use Rattle.named_parts.specs.Order.{AreInOrder, place_of, inserted}

-- ---- the order of names

names_total : IsTotalOrder key_cmp
names_total = on_total encode_utf8_all nat_list_cmp_total

same_names : (a b : List ℕ) → key_cmp a b ≡ Equal → a ≡ b
same_names a b e = encodes_same a b (exact_bytes (encode_utf8_all a) (encode_utf8_all b) e)

-- what is below a name is below all that are above it
all_above : (a b : List ℕ) (ns : List (List ℕ)) → key_cmp a b ≡ Less → AllByRecursion (λ n. key_cmp b n ≡ Less) ns
    → AllByRecursion (λ n. key_cmp a n ≡ Less) ns
all_above a b [] e h = tt
all_above a b (n ∷ ns) e h = (names_total.trans a b n e h.0, all_above a b ns e h.1)

module _ {A : Type 0} (name : A → List ℕ) (y : A) where
  -- ---- the place

  place_by : (o : Ordering) (x : A) (xs : List A) → insert xs (place_of name (name y) xs) y ≡ inserted name y xs
      → insert (x ∷ xs) (match_ordering o 0 0 (suc (place_of name (name y) xs))) y
      ≡ match_ordering o (y ∷ x ∷ xs) (y ∷ x ∷ xs) (x ∷ inserted name y xs)
  place_by Less x xs r = refl
  place_by Equal x xs r = refl
  place_by Greater x xs r = ap (λ zs. x ∷ zs) r

  -- the part that is put at the place of its name is in its place
  pub is_inserted : (xs : List A) → insert xs (place_of name (name y) xs) y ≡ inserted name y xs
  is_inserted [] = refl
  is_inserted (x ∷ xs) = place_by (key_cmp (name y) (name x)) x xs (is_inserted xs)

  within_by : (o : Ordering) (x : A) (xs : List A) → place_of name (name y) xs ≤ length xs
      → match_ordering o 0 0 (suc (place_of name (name y) xs)) ≤ length (x ∷ xs)
  within_by Less x xs l = omega arith
  within_by Equal x xs l = omega arith
  within_by Greater x xs l = omega (arith, l)

  -- the place is one of the list, or its end
  pub place_within : (xs : List A) → place_of name (name y) xs ≤ length xs
  place_within [] = omega arith
  place_within (x ∷ xs) = within_by (key_cmp (name y) (name x)) x xs (place_within xs)

  pub place_is : (xs : List A) (n : List ℕ) (zs : List A) (i : ℕ) → n ≡ name y → zs ≡ xs → i ≡ place_of name n zs
      → i ≡ place_of name (name y) xs
  place_is xs n zs i e h p = p ∙ ap (λ m. place_of name m zs) e ∙ ap (place_of name (name y)) h

  -- ---- the order

  -- no name is that of the part
  abbrev Other : List A → Type 0
  Other xs = AllByRecursion (λ n. key_cmp (name y) n ≡ Equal → ⊥) (map name xs)

  other_by : (x : A) (xs : List A) (b : Bool) → bytes_eq (fold (name y)) (fold (name x)) ≡ b
      → (if b then Some x else found name (fold (name y)) xs) ≡ None
      → (found name (fold (name y)) xs ≡ None → Other xs) → Other (x ∷ xs)
  other_by x xs true e h r = absurd cc
  other_by x xs false e h r = (differs, r h)
    where
      differs : key_cmp (name y) (name x) ≡ Equal → ⊥
      differs q =
          true≢false
          (sym ((bytes_eq-Decides (fold (name y)) (fold (name x))).1 (ap fold (same_names (name y) (name x) q))) ∙ e)

  others : (xs : List A) → found name (fold (name y)) xs ≡ None → Other xs
  others [] h = tt
  others (x ∷ xs) h = other_by x xs (bytes_eq (fold (name y)) (fold (name x))) refl h (others xs)

  below_by : (k : List ℕ) (o : Ordering) (x : A) (xs : List A) → key_cmp k (name y) ≡ Less
      → key_cmp k (name x) ≡ Less → AllByRecursion (λ n. key_cmp k n ≡ Less) (map name xs)
      → AllByRecursion (λ n. key_cmp k n ≡ Less) (map name (inserted name y xs))
      → AllByRecursion (λ n. key_cmp k n ≡ Less)
      (map name (match_ordering o (y ∷ x ∷ xs) (y ∷ x ∷ xs) (x ∷ inserted name y xs)))
  below_by k Less x xs e g h r = (e, (g, h))
  below_by k Equal x xs e g h r = (e, (g, h))
  below_by k Greater x xs e g h r = (g, r)

  -- what is below all and below the part is below all with the part
  below : (k : List ℕ) (xs : List A) → key_cmp k (name y) ≡ Less
      → AllByRecursion (λ n. key_cmp k n ≡ Less) (map name xs)
      → AllByRecursion (λ n. key_cmp k n ≡ Less) (map name (inserted name y xs))
  below k [] e h = (e, tt)
  below k (x ∷ xs) e h = below_by k (key_cmp (name y) (name x)) x xs e h.0 h.1 (below k xs e h.1)

  order_by : (o : Ordering) (x : A) (xs : List A) → key_cmp (name y) (name x) ≡ o → AreInOrder name (x ∷ xs)
      → (key_cmp (name y) (name x) ≡ Equal → ⊥) → AreInOrder name (inserted name y xs)
      → AreInOrder name (match_ordering o (y ∷ x ∷ xs) (y ∷ x ∷ xs) (x ∷ inserted name y xs))
  unfolding IsStrictlySortedBy
  order_by Less x xs e h d r = ((e, all_above (name y) (name x) (map name xs) e h.0), h)
  order_by Equal x xs e h d r = absurd (d e)
  order_by Greater x xs e h d r =
      (below (name x) xs (names_total.antisymm (name x) (name y) ∙ ap ordering_reverse e) h.0, r)

  order : (xs : List A) → AreInOrder name xs → Other xs → AreInOrder name (inserted name y xs)
  unfolding IsStrictlySortedBy
  order [] h d = (tt, tt)
  order (x ∷ xs) h d = order_by (key_cmp (name y) (name x)) x xs refl h d.0 (order xs h.1 d.1)

  -- parts of other names stay in order
  pub in_order : (xs : List A) → AreInOrder name xs → found name (fold (name y)) xs ≡ None
      → AreInOrder name (inserted name y xs)
  in_order xs h d = order xs h (others xs d)
