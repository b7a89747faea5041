-- Which symbols are in the table after the first symbols of an order.
use Rattle.std.proofs.Common.{◌≡◌, ◌<◌, ◌+◌, ◌⊎◌, inl, inr, ℕ, zero, suc, List, [], ◌∷◌, length, Bool, true, false}
use Rattle.std.proofs.Common.{refl, ap, sym, ◌∙◌, subst, arith, get_or}
use Rattle.std.specs.Prelude.{slice_set}
use Rattle.foundation.proofs.Comparisons.{lt_or_is}
use Rattle.depend_graph.specs.Orders.{IsAmong}

-- what is set stays so
stays_set : (bs : List Bool) (n m : ℕ) → get_or bs m false ≡ true → get_or (slice_set bs n true) m false ≡ true
stays_set [] n m h = h
stays_set (b ∷ bs) zero zero h = refl
stays_set (b ∷ bs) zero (suc m) h = h
stays_set (b ∷ bs) (suc n) zero h = h
stays_set (b ∷ bs) (suc n) (suc m) h = stays_set bs n m h

is_set : (bs : List Bool) (n : ℕ) → n < length bs → get_or (slice_set bs n true) n false ≡ true
is_set [] n h = absurd (omega (arith, h))
is_set (b ∷ bs) zero h = refl
is_set (b ∷ bs) (suc n) h = is_set bs n (omega (arith, h))

pub set_length : (bs : List Bool) (n : ℕ) → length (slice_set bs n true) ≡ length bs
set_length [] n = refl
set_length (b ∷ bs) zero = refl
set_length (b ∷ bs) (suc n) = ap suc (set_length bs n)

-- the symbols before the next place are in the table, once the symbol at this place is
pub one_more_known : (bs : List Bool) (order : List ℕ) (i n : ℕ) → n < length bs → get_or order i 0 ≡ n
    → ((m : ℕ) → IsAmong order i m → get_or bs m false ≡ true)
    → (m : ℕ) → IsAmong order (i + 1) m → get_or (slice_set bs n true) m false ≡ true
one_more_known bs order i n h at before m among = by (lt_or_is among.0 i among.1)
  where
    by : (among.0 < i) ⊎ (among.0 ≡ i) → get_or (slice_set bs n true) m false ≡ true
    by (inl l) = stays_set bs n m (before m (among.0, l, among.2))
    by (inr e) =
        subst (λ k. get_or (slice_set bs n true) k false ≡ true)
        (sym at ∙ ap (λ j. get_or order j 0) (sym e) ∙ among.2) (is_set bs n h)

pub none_before : (bs : List Bool) (order : List ℕ) (m : ℕ) → IsAmong order 0 m → get_or bs m false ≡ true
none_before bs order m among = let l = among.1 in absurd (omega (arith, l))
