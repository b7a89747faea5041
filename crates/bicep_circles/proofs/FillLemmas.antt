-- A table that is filled symbol by symbol, in an order in which each comes after those that its declaration mentions.
use Rattle.std.proofs.Common.{◌≡◌, ◌<◌, ◌≤◌, ◌+◌, ◌⊎◌, inl, inr, ℕ, zero, suc, List, length, sym, ap, subst}
use Rattle.std.proofs.Common.{arith, get_or}
use Rattle.std.proofs.lemmas.Bool.{cases_eq, cases_lt}
use Rattle.bicep_program.specs.Circles.{Links}
use Rattle.bicep_circles.specs.Orders.{IsLinkOrder}

-- the table is right of the first symbols of the order, and of each number that is no symbol's
pub record IsFilled (lists : List (List ℕ)) (order : List ℕ) (T : Type 0) (IsRight : T → ℕ → Type 0) (t : T) (i : ℕ)
    : Type 0 where
  pub far : (m : ℕ) → length lists ≤ m → IsRight t m
  pub same : (j : ℕ) → j < i → IsRight t (get_or order j 0)

module _ (lists : List (List ℕ)) (order : List ℕ) (o : IsLinkOrder lists order) (T : Type 0)
    (IsRight : T → ℕ → Type 0) where
  -- it is right of each symbol that the declaration of the next one mentions
  pub known_before : (t : T) (i m : ℕ) → i < length order → IsFilled lists order T IsRight t i
      → Links lists (get_or order i 0) m → IsRight t m
  known_before t i m h f c = by (cases_lt m (length lists))
    where
      by : (m < length lists) ⊎ (length lists ≤ m) → IsRight t m
      by (inl here) =
          let before = o.in_turn i m h c here in
          subst (IsRight t) before.2 (f.same before.0 before.1)
      by (inr beyond) = f.far m beyond

  -- one symbol more, where the table stays right of the others
  pub filled_next : (t u : T) (i : ℕ) → i < length order → IsFilled lists order T IsRight t i
      → IsRight u (get_or order i 0) → ((m : ℕ) → (m ≡ get_or order i 0 → ⊥) → IsRight t m → IsRight u m)
      → IsFilled lists order T IsRight u (i + 1)
  filled_next t u i h f right stays = record { far = far; same = same }
    where
      far : (m : ℕ) → length lists ≤ m → IsRight u m
      far m beyond =
          let here = o.nodes i h in
          stays m (λ e. absurd (omega (arith, beyond, here, e))) (f.far m beyond)

      by_place : (j : ℕ) → j < i + 1 → (get_or order j 0 ≡ get_or order i 0)
          ⊎ (get_or order j 0 ≡ get_or order i 0 → ⊥) → IsRight u (get_or order j 0)
      by_place j lt (inl e) = subst (IsRight u) (sym e) right
      by_place j lt (inr ne) = stays (get_or order j 0) ne (f.same j (before (cases_lt j i)))
        where
          before : (j < i) ⊎ (i ≤ j) → j < i
          before (inl low) = low
          before (inr high) =
              let last : j ≡ i = omega (arith, lt, high) in absurd (ne (ap (λ k. get_or order k 0) last))

      same : (j : ℕ) → j < i + 1 → IsRight u (get_or order j 0)
      same j lt = by_place j lt (cases_eq (get_or order j 0) (get_or order i 0))

  -- once the order has ended, the table is right of every number
  pub filled_all : (t : T) (i : ℕ) → length order ≤ i → IsFilled lists order T IsRight t i → (n : ℕ) → IsRight t n
  filled_all t i h f n = by (cases_lt n (length lists))
    where
      by : (n < length lists) ⊎ (length lists ≤ n) → IsRight t n
      by (inl here) =
          let among = o.all n here in
          let lt = among.1 in
          subst (IsRight t) among.2 (f.same among.0 (omega (arith, lt, h)))
      by (inr beyond) = f.far n beyond
