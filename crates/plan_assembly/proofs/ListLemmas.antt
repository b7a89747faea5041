-- A list that grows by one, for each of another list.
use Rattle.std.proofs.Common.{◌≡◌, ℕ, zero, suc, ◌+◌, ◌<◌, ◌≤◌, List, [], ◌∷◌, ◌++◌, map, length, drop, get_or}
use Rattle.std.proofs.Common.{refl, sym, ap, subst, ◌∙◌, arith, append_assoc}
use Rattle.std.proofs.lemmas.List.{map-append, append-nil}
use Rattle.std.proofs.Math.Seq.{drop-cons}
use Rattle.foundation.proofs.Lists.{nothing_left}
use Rattle.reading.specs.World.{Each}
use Rattle.plan_table.proofs.SpotLemmas.{each_joined}

module _ {A B C : Type 0} (f : A → C) (g : B → C) where
  pub more : (olds news : List A) (a : A) (bs : List B) (i : ℕ) (d : B) (all : List C) → i < length bs
      → f a ≡ g (get_or bs i d) → news ≡ olds ++ a ∷ [] → map f olds ++ map g (drop i bs) ≡ all
      → map f news ++ map g (drop (i + 1) bs) ≡ all
  more olds news a bs i d all h e n left =
      let next : i + 1 ≡ suc i = omega arith in
      ap (λ (k : ℕ). map f news ++ map g (drop k bs)) next
      ∙ ap (λ xs. xs ++ map g (drop (suc i) bs)) (ap (map f) n ∙ map-append f olds (a ∷ []))
      ∙ append_assoc (map f olds) (f a ∷ []) (map g (drop (suc i) bs))
      ∙ ap (λ x. map f olds ++ x ∷ map g (drop (suc i) bs)) e
      ∙ ap (λ xs. map f olds ++ map g xs) (sym (drop-cons bs i d h))
      ∙ left

  pub done : (news : List A) (bs : List B) (i : ℕ) (all : List C) → length bs ≤ i
      → map f news ++ map g (drop i bs) ≡ all → map f news ≡ all
  done news bs i all h left =
      sym (append-nil (map f news))
      ∙ ap (λ xs. map f news ++ map g xs) (sym (nothing_left bs i h))
      ∙ left

pub each_more : {A : Type 0} (P : A → Type 0) (olds news : List A) (a : A) → news ≡ olds ++ a ∷ [] → Each P olds → P a
    → Each P news
each_more P olds news a n h p = subst (λ xs. Each P xs) (sym n) (each_joined P olds (a ∷ []) h (p, tt))
