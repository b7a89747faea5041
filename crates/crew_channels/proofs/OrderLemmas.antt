-- A receive keeps the rule of the orders.
use Rattle.std.proofs.Common.{◌⊎◌, inl, inr, zero, suc, ◌≡◌, ◌≢◌, ℕ, true, false, List, [], ◌∷◌, ◌++◌, length}
use Rattle.std.proofs.Common.{set, sym, refl, ap, ◌∙◌, subst, ⊎_elim, append_assoc}
use Rattle.foundation.proofs.TruthValues.{impossible}
use mathlib.Core.Option.{some, some-injective, some-ne-none}
use lib.ListN.{get_elem?}
use Rattle.crossbeam_channel.specs.Fifo.{Pops, Pushes, Forks, Merges, Learns}
use Rattle.atomic_table.proofs.Lists.{at_set, set_else}
use Rattle.crew_channels.specs.declared.orders.Orders.{Orders}
use Rattle.crew_channels.specs.declared.order.Order.{Order}
use Rattle.crew_channels.specs.declared.order.Order.TheVariants.{Run, Stop}
use Rattle.provider_trait.specs.Work.{Work}
use Rattle.crew_channels.specs.Orders.{orders, FitsPort, AreInOrder, jobs_in}

abbrev All : (ℕ → Orders → Type 0) → List Orders → Type 0
All F views = (port : ℕ) (v : Orders) → get_elem? views port ≡ some v → F port v

all_set : (F : ℕ → Orders → Type 0) (views : List Orders) (port : ℕ) (w : Orders) → F port w
    → ((j : ℕ) (u : Orders) → j ≢ port → get_elem? views j ≡ some u → F j u) → All F (set views port w)
all_set F views port w mine others j u e =
    ⊎_elim (λ (x : (j ≡ port) × (w ≡ u)). subst (λ (y : ℕ × Orders). F y.0 y.1) (λ i. (sym x.0 i, x.1 i)) mine)
    (λ (x : (j ≢ port) × (get_elem? views j ≡ some u)). others j u x.0 x.1) (at_set views port j w u e)

pub gets : (port : ℕ) (v : Orders) → v.receives ≡ true
    → Pops AreInOrder port v (λ x w. w ≡ orders v.sends v.receives v.sent (v.got ++ x ∷ []))
gets port v may x items views h at = let w : Orders =
    orders v.sends v.receives v.sent (v.got ++ x ∷ []) in let mine = h.5 port v at in let got = h.3 ++ x ∷ [] in (
      w,
      (
        h.0,
        h.1,
        h.2,
        got,
        h.4 ∙ sym (append_assoc h.3 (x ∷ []) items),
        all_set (FitsPort h.0 h.1 h.2 got) views port w
            (mine.0, λ _. ((mine.1 may).0, ap (λ l. l ++ x ∷ []) (mine.1 may).1))
            (λ j u other e. ((h.5 j u e).0, λ p. absurd (other (((h.5 j u e).1 p).0 ∙ sym (mine.1 may).0)))),
      ),
      refl,
    )

pub jobs_run : (os : List Order) (j : Work) → jobs_in (os ++ Run j ∷ []) ≡ jobs_in os ++ j ∷ []
jobs_run [] j = refl
jobs_run (Run k ∷ os) j = ap (λ l. k ∷ l) (jobs_run os j)
jobs_run (Stop ∷ os) j = jobs_run os j

pub jobs_stop : (os : List Order) → jobs_in (os ++ Stop ∷ []) ≡ jobs_in os
jobs_stop [] = refl
jobs_stop (Run k ∷ os) = ap (λ l. k ∷ l) (jobs_stop os)
jobs_stop (Stop ∷ os) = jobs_stop os

at_end : (l : List Orders) (a b : Orders) (j : ℕ) → get_elem? (l ++ a ∷ []) j ≡ some b
    → (get_elem? l j ≡ some b) ⊎ ((length l ≡ j) × (a ≡ b))
at_end [] a b zero e = inr (refl, some-injective a b e)
at_end [] a b (suc j) e = absurd (some-ne-none b (sym e))
at_end (x ∷ xs) a b zero e = inl e
at_end (x ∷ xs) a b (suc j) e = ⊎_elim inl (λ t. inr (ap suc t.0, t.1)) (at_end xs a b j e)

all_end : (F : ℕ → Orders → Type 0) (views : List Orders) (w : Orders) → All F views → F (length views) w
    → All F (views ++ w ∷ [])
all_end F views w old new j u e =
    ⊎_elim (old j u) (λ (x : (length views ≡ j)
    × (w ≡ u)). subst (λ (y : ℕ × Orders). F y.0 y.1) (λ i. (x.0 i, x.1 i)) new) (at_end views w u j e)

pub puts : (n port : ℕ) (v : Orders) (x : Order) → v.sends ≡ true
    → Pushes AreInOrder n port v x (λ w. w ≡ orders v.sends v.receives (v.sent ++ x ∷ []) v.got)
puts n port v x may items views room h at = let w : Orders =
    orders v.sends v.receives (v.sent ++ x ∷ []) v.got in let mine = h.5 port v at in let sent = h.2 ++ x ∷ [] in (
      w,
      (
        h.0,
        h.1,
        sent,
        h.3,
        ap (λ l. l ++ x ∷ []) h.4 ∙ append_assoc h.3 items (x ∷ []),
        all_set (FitsPort h.0 h.1 sent h.3) views port w
            ((λ _. ((mine.0 may).0, ap (λ l. l ++ x ∷ []) (mine.0 may).1)), mine.1)
            (λ j u other e. ((λ p. absurd (other (((h.5 j u e).0 p).0 ∙ sym (mine.0 may).0))), (h.5 j u e).1)),
      ),
      refl,
    )

pub forks : (port : ℕ) (v : Orders) → v.sends ≡ true → v.receives ≡ true
    → Forks AreInOrder port v (orders true false v.sent []) (orders false true [] v.got)
forks port v may works items views h at =
    let left : Orders = orders true false v.sent [] in
    let right : Orders = orders false true [] v.got in
    let mine = h.5 port v at in
    let new = length (set views port left) in (
      h.0,
      new,
      h.2,
      h.3,
      h.4,
      all_end (FitsPort h.0 new h.2 h.3) (set views port left) right
          (all_set (FitsPort h.0 new h.2 h.3) views port left ((λ _. mine.0 may), λ s. impossible s)
          (λ j u other e. ((h.5 j u e).0, λ s. absurd (other (((h.5 j u e).1 s).0 ∙ sym (mine.1 works).0)))))
          ((λ d. impossible d), λ _. (refl, (mine.1 works).1)),
    )

pub merges : (port : ℕ) (v : Orders) (other : ℕ) (w : Orders) → v.sends ≡ true → w.receives ≡ true
    → Merges AreInOrder port v other w (orders true true v.sent w.got) (orders false false [] [])
merges port v other w may works items views h at apart there =
    let both : Orders = orders true true v.sent w.got in
    let spent : Orders = orders false false [] [] in
    let me = (h.5 port v at).0 may in
    let its = (h.5 other w (sym (set_else views port other both apart) ∙ there)).1 works in
    let F = FitsPort h.0 port h.2 h.3 in (
      h.0,
      port,
      h.2,
      h.3,
      h.4,
      all_set F (set views port both) other spent ((λ d. impossible d), λ s. impossible s)
          (λ j u far e. ⊎_elim
          (λ (x : (j ≡ port) × (both ≡ u)). subst (λ (y : ℕ × Orders). F y.0 y.1) (λ i. (sym x.0 i, x.1 i))
          ((λ _. me), λ _. (refl, its.1)))
          (λ (x : (j ≢ port) × (get_elem? views j ≡ some u)).
          ((h.5 j u x.1).0, λ s. absurd (far (((h.5 j u x.1).1 s).0 ∙ sym its.0))))
          (at_set views port j both u e)),
    )

pub learns : (port : ℕ) (v : Orders) → v.sends ≡ true → v.receives ≡ true
    → Learns AreInOrder port v (λ items. v.sent ≡ v.got ++ items)
learns port v may works items views h at = let mine = h.5 port v at in (mine.0 may).1 ∙ h.4
    ∙ ap (λ l. l ++ items) (sym (mine.1 works).1)

pub begins : AreInOrder [] (orders true true [] [] ∷ [])
begins = (
  0,
  0,
  [],
  [],
  refl,
  λ port v e. ⊎_elim (λ (x : get_elem? [] port ≡ some v). absurd (some-ne-none v (sym x)))
      (λ (x : (0 ≡ port) × (orders true true [] [] ≡ v)).
      subst (λ (y : ℕ × Orders). FitsPort 0 0 [] [] y.0 y.1) (λ i. (x.0 i, x.1 i))
      ((λ _. (refl, refl)), λ _. (refl, refl))) (at_end [] (orders true true [] []) v port e),
)
