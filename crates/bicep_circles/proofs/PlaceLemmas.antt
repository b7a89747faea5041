-- Places in an order of lists: each number comes after those that it leads to, so there is no circle.
use Rattle.std.proofs.Common.{◌≡◌, ◌<◌, ◌≤◌, ◌==◌, ◌⊎◌, inl, inr, ℕ, zero, suc, Bool, true, false, List, [], ◌∷◌}
use Rattle.std.proofs.Common.{length, sym, subst, arith, get_or, cond}
use Rattle.std.proofs.lemmas.Bool.{cases_eq}
use Rattle.depend_graph.proofs.Keeping.{same_test, other_test}
use Rattle.bicep_program.specs.Circles.{IsCircle, Chain, Links}
use Rattle.bicep_circles.specs.Orders.{IsLinkOrder}
use Rattle.bicep_circles.proofs.LinkLemmas.{source_within, first_within}

-- the first place of a number
pub place : List ℕ → ℕ → ℕ
place [] n = 0
place (x ∷ xs) n = cond (x == n) 0 (suc (place xs n))

pub place_most : (xs : List ℕ) (j n : ℕ) → j < length xs → get_or xs j 0 ≡ n → place xs n ≤ j
unfolding place
place_most [] j n h e = absurd (omega (arith, h))
place_most (x ∷ xs) zero n h e = rw (same_test x n (sym e)) (omega arith)
place_most (x ∷ xs) (suc j) n h e = by (x == n) (place_most xs j n (omega (arith, h)) e)
  where
    by : (b : Bool) → place xs n ≤ j → cond b 0 (suc (place xs n)) ≤ suc j
    by true g = omega arith
    by false g = omega (arith, g)

place_at_by : (x : ℕ) (xs : List ℕ) (n : ℕ) → (x ≡ n) ⊎ (x ≡ n → ⊥) → get_or xs (place xs n) 0 ≡ n
    → get_or (x ∷ xs) (cond (x == n) 0 (suc (place xs n))) 0 ≡ n
place_at_by x xs n (inl same) h = rw (same_test x n (sym same)) same
place_at_by x xs n (inr other) h = rw (other_test x n (λ q. other (sym q))) h

pub place_at : (xs : List ℕ) (j n : ℕ) → j < length xs → get_or xs j 0 ≡ n → get_or xs (place xs n) 0 ≡ n
unfolding place
place_at [] j n h e = absurd (omega (arith, h))
place_at (x ∷ xs) zero n h e = rw (same_test x n (sym e)) e
place_at (x ∷ xs) (suc j) n h e = place_at_by x xs n (cases_eq x n) (place_at xs j n (omega (arith, h)) e)

module _ (lists : List (List ℕ)) (order : List ℕ) (o : IsLinkOrder lists order) where
  -- what is led to comes before
  pub link_falls : (n m : ℕ) → Links lists n m → m < length lists → place order m < place order n
  link_falls n m c here =
      let among = o.all n (source_within lists n m c) in
      let lt = among.1 in
      let most = place_most order among.0 n lt among.2 in
      let at = place_at order among.0 n lt among.2 in
      let before = o.in_turn (place order n) m (omega (arith, lt, most))
      (subst (λ k. Links lists k m) (sym at) c) here in
      let first = before.1 in
      let least = place_most order before.0 m (omega (arith, first, lt, most)) before.2 in
      omega (arith, first, least)

  -- each number is in the order
  pub place_within : (n : ℕ) → n < length lists → place order n < length order
  place_within n here =
      let among = o.all n here in
      let lt = among.1 in
      let most = place_most order among.0 n lt among.2 in
      omega (arith, lt, most)

  chain_falls : (x : ℕ) (xs : List ℕ) (end : ℕ) → end < length lists → Chain (Links lists) (x ∷ xs) end
      → place order end < place order x
  chain_falls x [] end h c = link_falls x end c h
  chain_falls x (y ∷ xs) end h c =
      let rest = chain_falls y xs end h c.1 in
      let here = link_falls x y c.0 (first_within lists y xs end c.1) in
      omega (arith, rest, here)

  pub no_circle : (xs : List ℕ) → IsCircle (Links lists) xs → ⊥
  no_circle [] c = c
  no_circle (x ∷ xs) c =
      let falls = chain_falls x xs x (first_within lists x xs x c) c in absurd (omega (arith, falls))
