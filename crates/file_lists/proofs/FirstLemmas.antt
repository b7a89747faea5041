-- Parts that belong to the first so many entries, one after another.
use Rattle.std.proofs.Common.{◌≡◌, ◌<◌, ◌≤◌, ◌+◌, ℕ, zero, suc, true, false, List, [], length, Option, Some}
use Rattle.std.proofs.Common.{None, bytes_eq, refl, sym, ap, ◌∙◌, subst, arith}
use Rattle.std.proofs.Common.{◌⊎◌, inl, inr}
use Rattle.std.specs.Prelude.{option_and_then}
use Rattle.std.specs.List.Sorted.{IsStrictlySortedBy}
use Rattle.std.proofs.lemmas.Bool.{cases_lt}
use Rattle.foundation.proofs.Comparisons.{lt_or_is}
use Rattle.foundation.proofs.Options.{same_some}
use Rattle.arm_value.specs.Look.{fold}
use Rattle.emitted_values.specs.Values.{AreBoth}
use Rattle.named_parts.specs.Found.{found, HasOneMore}
use Rattle.named_parts.specs.Order.{AreInOrder, inserted}
use Rattle.named_parts.proofs.FoundLemmas.{one_inserted}
use Rattle.named_parts.proofs.OrderLemmas.{in_order}
use Rattle.file_lists.specs.Found.{sought, name_at, Differ, IsPart, AreOfFirst, AreListed, grown, IsNext}
use Rattle.file_lists.proofs.SizeLemmas.{none_yet, not_more, one_more_at, is_declared, size_inserted}
use Rattle.file_lists.proofs.SoughtLemmas.{sought_name, not_sought, is_sought, other_name, is_fold}

-- no part is in order
pub none_in_order : {A : Type 0} (name : A → List ℕ) → AreInOrder name []
unfolding IsStrictlySortedBy
none_in_order name = tt

module _ {E A B : Type 0} (key : E → List ℕ) (es : List E) (differ : Differ key es) (by : ℕ → Option B)
    (name : A → List ℕ) (R : B → A → Type 0) where
  abbrev First : ℕ → List A → Type 0
  First k xs = AreOfFirst key es by name R k xs

  pub begin : First 0 []
  begin = record {
    there = λ x n e l. absurd (omega (arith, l));
    later = λ x n e l. refl;
    none = λ x e. refl;
  }

  -- the entry of the number is the one that is sought
  at_number : (P : ℕ → Type 0) (n k : ℕ) → n ≡ k → P k → P n
  at_number P n k e h = subst P (sym e) h

  -- nothing belongs to the next entry
  skipped : (k : ℕ) (xs : List A) → ((x : List ℕ) → sought key es x ≡ Some k → by k ≡ None) → First k xs
      → First (k + 1) xs
  skipped k xs nothing h = record {
    there = λ x n e l. by_part x n e (lt_or_is n k l);
    later = λ x n e l. h.later x n e (omega (arith, l));
    none = h.none;
  }
    where
      by_part : (x : List ℕ) (n : ℕ) → sought key es x ≡ Some n → (n < k) ⊎ (n ≡ k)
          → AreBoth R (by n) (found name x xs)
      by_part x n e (inl l) = h.there x n e l
      by_part x n e (inr q) =
          let at = e ∙ ap (λ m. Some m) q in
          at_number (λ m. AreBoth R (by m) (found name x xs)) n k q
          (subst (λ o. AreBoth R o (found name x xs)) (sym (nothing x at))
          (subst (AreBoth R None) (sym (h.later x k at (omega arith))) tt))

  module _ (k : ℕ) (y : List ℕ) (at : name_at key es k ≡ Some y) (a : A) (named : name a ≡ y) where
    is_new : (x : List ℕ) → sought key es x ≡ Some k → bytes_eq x (fold (name a)) ≡ true
    is_new x e =
        let s = sought_name key es x k e in
        is_fold key es x (name a) (s.1.1 ∙ ap fold (same_text s.0 s.1.0 ∙ sym named))
      where
        same_text : (z : List ℕ) → name_at key es k ≡ Some z → z ≡ y
        same_text z g = same_some (sym g ∙ at)

    is_other : (x : List ℕ) (n : ℕ) → sought key es x ≡ Some n → (n ≡ k → ⊥) → bytes_eq x (fold (name a)) ≡ false
    is_other x n e apart =
        subst (λ z. bytes_eq x (fold z) ≡ false) (sym named) (other_name key es differ x n k y e at apart)

    -- one part more, that of the next entry
    added : (b : B) (xs ys : List A) → by k ≡ Some b → R b a → HasOneMore a xs ys → First k xs → First (k + 1) ys
    added b xs ys is r more h = record {
      there = λ x n e l. by_part x n e (lt_or_is n k l);
      later = λ x n e l.
          more.others (λ c. bytes_eq x (fold (name c))) (is_other x n e (λ q. absurd (omega (arith, l, q))))
          ∙ h.later x n e (omega (arith, l));
      none = λ x e.
          more.others (λ c. bytes_eq x (fold (name c)))
          (subst (λ z. bytes_eq x (fold z) ≡ false) (sym named) (not_sought key es x e k y at))
          ∙ h.none x e;
    }
      where
        by_part : (x : List ℕ) (n : ℕ) → sought key es x ≡ Some n → (n < k) ⊎ (n ≡ k)
            → AreBoth R (by n) (found name x ys)
        by_part x n e (inl l) =
            subst (AreBoth R (by n))
            (sym (more.others (λ c. bytes_eq x (fold (name c))) (is_other x n e (λ q. absurd (omega (arith, l, q))))))
            (h.there x n e l)
        by_part x n e (inr q) =
            let here = e ∙ ap (λ m. Some m) q in
            at_number (λ m. AreBoth R (by m) (found name x ys)) n k q
            (subst (λ o. AreBoth R o (found name x ys)) (sym is)
            (subst (AreBoth R (Some b))
            (sym (more.new (λ c. bytes_eq x (fold (name c))) (is_new x here) (h.later x k here (omega arith)))) r))

    -- no part before has the name of the new one
    pub is_fresh : (xs : List A) → First k xs → found name (fold (name a)) xs ≡ None
    is_fresh xs h =
        h.later (fold (name a)) k (ap (λ z. sought key es (fold z)) named ∙ is_sought key es differ k y at)
        (omega arith)

  -- an entry without a name is sought by none
  unnamed : (k : ℕ) → name_at key es k ≡ None → (x : List ℕ) → sought key es x ≡ Some k → by k ≡ None
  unnamed k g x s =
      let n = sought_name key es x k s in
      let c = sym g ∙ n.1.0 in
      absurd cc

  -- the part of the next entry, however it is put among the others
  pub next_first : (k : ℕ) (o : Option A) (xs ys : List A) → IsPart name R (name_at key es k) (by k) o
      → (o ≡ None → ys ≡ xs) → ((a : A) → o ≡ Some a → HasOneMore a xs ys) → First k xs → First (k + 1) ys
  next_first k o xs ys p none some h = by_name (name_at key es k) (by k) o refl refl refl p
    where
      same : o ≡ None → ((x : List ℕ) → sought key es x ≡ Some k → by k ≡ None) → First (k + 1) ys
      same q nothing = subst (First (k + 1)) (sym (none q)) (skipped k xs nothing h)

      by_name : (x : Option (List ℕ)) (b : Option B) (q : Option A) → name_at key es k ≡ x → by k ≡ b → o ≡ q
          → IsPart name R x b q → First (k + 1) ys
      by_name None b q g e i p = same (i ∙ p) (unnamed k g)
      by_name (Some x) None q g e i p = same (i ∙ p) (λ x s. e)
      by_name (Some x) (Some b) None g e i p = absurd p
      by_name (Some x) (Some b) (Some a) g e i p = added k x g a p.0 b xs ys e p.1 (some a i) h

  -- the new part is found by no name before
  pub next_fresh : (k : ℕ) (a : A) (xs : List A) → IsPart name R (name_at key es k) (by k) (Some a) → First k xs
      → found name (fold (name a)) xs ≡ None
  next_fresh k a xs p h = by_name (name_at key es k) (by k) refl p
    where
      by_name : (x : Option (List ℕ)) (b : Option B) → name_at key es k ≡ x → IsPart name R x b (Some a)
          → found name (fold (name a)) xs ≡ None
      by_name None b g p = absurd cc
      by_name (Some x) None g p = absurd cc
      by_name (Some x) (Some b) g p = is_fresh k x g a p.0 xs h

  -- all entries are looked at
  pub all_first : (k : ℕ) (xs : List A) → ((n : ℕ) → k ≤ n → by n ≡ None) → First k xs → (x : List ℕ)
      → AreBoth R (option_and_then by (sought key es x)) (found name x xs)
  all_first k xs nothing h x = by_place (sought key es x) refl
    where
      by_place : (o : Option ℕ) → sought key es x ≡ o → AreBoth R (option_and_then by o) (found name x xs)
      by_place None e = subst (AreBoth R None) (sym (h.none x e)) tt
      by_place (Some n) e = by_part (cases_lt n k)
        where
          by_part : (n < k) ⊎ (k ≤ n) → AreBoth R (by n) (found name x xs)
          by_part (inl l) = h.there x n e l
          by_part (inr l) =
              subst (λ o. AreBoth R o (found name x xs)) (sym (nothing n l))
              (subst (AreBoth R None) (sym (h.later x n e l)) tt)

  one_more : (a : A) (xs ys : List A) → ys ≡ inserted name a xs → (c : A) → Some a ≡ Some c → HasOneMore c xs ys
  one_more a xs ys e c q =
      subst (λ z. HasOneMore z xs ys) (same_some q) (subst (HasOneMore a xs) (sym e) (one_inserted a name xs))

  -- ---- lists in order

  abbrev Listed : ℕ → List A → Type 0
  Listed k xs = AreListed key es by name R k xs

  pub none_listed : (xs : List A) → xs ≡ [] → Listed 0 xs
  none_listed xs e =
      subst (Listed 0) (sym e) (record { first = begin; order = none_in_order name; size = none_yet })

  pub next_listed : (k : ℕ) (xs ys : List A) → IsNext name R (name_at key es k) (by k) xs ys → Listed k xs
      → Listed (k + 1) ys
  next_listed k xs ys g h = by_part g.0 g.1.0 g.1.1
    where
      by_part : (o : Option A) → IsPart name R (name_at key es k) (by k) o → ys ≡ grown name o xs → Listed (k + 1) ys
      by_part None p e = record {
        first = next_first k None xs ys p (λ q. e) (λ a q. absurd cc) h.first;
        order = subst (AreInOrder name) (sym e) h.order;
        size = not_more by k xs ys e h.size;
      }
      by_part (Some a) p e = record {
        first = next_first k (Some a) xs ys p (λ q. absurd cc) (one_more a xs ys e) h.first;
        order = subst (AreInOrder name) (sym e) (in_order name a xs h.order (next_fresh k a xs p h.first));
        size = one_more_at by k xs ys (is_declared name R (name_at key es k) (by k) a p)
            (ap length e ∙ size_inserted name a xs) h.size;
      }
