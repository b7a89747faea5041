-- What a member that is put adds to the members.
use Rattle.std.proofs.Common.{◌≡◌, ◌≤◌, ◌+◌, ℕ, chars, Bool, true, false, List, [], ◌∷◌, ◌++◌, Option, Some, None}
use Rattle.std.proofs.Common.{Ordering, Less, Equal, Greater, refl, sym, ap, subst, ◌∙◌, arith}
use Rattle.std.specs.Ordering.{match_ordering}
use Rattle.arm_value.specs.Json.{Json, Member, put, key_cmp}
use Rattle.arm_value.proofs.SetLemmas.{equal_keys}
use Rattle.template_written.specs.Slots.{Slot, put_slot, put_slots}
use Rattle.template_lengths.specs.Lengths.{value_bytes}
use Rattle.template_lengths.proofs.SizeLemmas.{counted, sum_of}

not_counted : (b : Bool) (m n : ℕ) → b ≡ false → counted b m + n ≡ n
not_counted true m n e = absurd cc
not_counted false m n e = omega arith

module _ (p : List ℕ → Bool) where
  -- a name that fails the test
  kept_by : (k : List ℕ) (j : Json) (m : Member) (ms : List Member) (o : Ordering) → key_cmp k m.0 ≡ o → p k ≡ false
      → sum_of p (put k j ms) ≡ sum_of p ms
      → sum_of p (match_ordering o ((k, j) ∷ m ∷ ms) ((k, j) ∷ ms) (m ∷ put k j ms)) ≡ sum_of p (m ∷ ms)
  kept_by k j m ms Less e f h = not_counted (p k) (value_bytes j) (sum_of p (m ∷ ms)) f
  kept_by k j m ms Equal e f h =
      not_counted (p k) (value_bytes j) (sum_of p ms) f
      ∙ sym (not_counted (p m.0) (value_bytes m.1) (sum_of p ms) (sym (ap p (equal_keys k m.0 e)) ∙ f))
  kept_by k j m ms Greater e f h = ap (λ n. counted (p m.0) (value_bytes m.1) + n) h

  kept : (k : List ℕ) (j : Json) (ms : List Member) → p k ≡ false → sum_of p (put k j ms) ≡ sum_of p ms
  kept k j [] f = not_counted (p k) (value_bytes j) 0 f
  kept k j (m ∷ ms) f = kept_by k j m ms (key_cmp k m.0) refl f (kept k j ms f)

  front : (k : List ℕ) (j : Json) (ms : List Member) → p k ≡ true → value_bytes j ≤ sum_of p ((k, j) ∷ ms)
  front k j ms f = subst (λ b. value_bytes j ≤ counted b (value_bytes j) + sum_of p ms) (sym f) (omega arith)

  later : (m : Member) (ms : List Member) (n : ℕ) → n ≤ sum_of p ms → n ≤ sum_of p (m ∷ ms)
  later m ms n h = omega (arith, h)

  -- a name that passes
  there_by : (k : List ℕ) (j : Json) (m : Member) (ms : List Member) (o : Ordering) → p k ≡ true
      → value_bytes j ≤ sum_of p (put k j ms)
      → value_bytes j ≤ sum_of p (match_ordering o ((k, j) ∷ m ∷ ms) ((k, j) ∷ ms) (m ∷ put k j ms))
  there_by k j m ms Less f h = front k j (m ∷ ms) f
  there_by k j m ms Equal f h = front k j ms f
  there_by k j m ms Greater f h = later m (put k j ms) (value_bytes j) h

  pub there : (k : List ℕ) (j : Json) (ms : List Member) → p k ≡ true → value_bytes j ≤ sum_of p (put k j ms)
  there k j [] f = front k j [] f
  there k j (m ∷ ms) f = there_by k j m ms (key_cmp k m.0) f (there k j ms f)

  -- ---- slots

  -- no name of these passes
  abbrev pub NonePasses : List Slot → Type 0
  NonePasses [] = Unit {0}
  NonePasses (s ∷ ss) = (p (chars s.0) ≡ false) × NonePasses ss

  pub slot_kept : (k : List ℕ) (o : Option Json) (ms : List Member) → p (chars k) ≡ false
      → sum_of p (put_slot k o ms) ≡ sum_of p ms
  unfolding put_slot
  slot_kept k None ms f = refl
  slot_kept k (Some j) ms f = kept (chars k) j ms f

  pub slots_kept : (ss : List Slot) (ms : List Member) → NonePasses ss → sum_of p (put_slots ss ms) ≡ sum_of p ms
  slots_kept [] ms f = refl
  slots_kept (s ∷ ss) ms f = slots_kept ss (put_slot s.0 s.1 ms) f.1 ∙ slot_kept s.0 s.1 ms f.0

-- slots after others
pub joined_slots : (ss ts : List Slot) (ms : List Member) → put_slots (ss ++ ts) ms ≡ put_slots ts (put_slots ss ms)
joined_slots [] ts ms = refl
joined_slots (s ∷ ss) ts ms = joined_slots ss ts (put_slot s.0 s.1 ms)
