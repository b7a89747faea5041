-- The steps of the result channel keep its rule.
use Rattle.std.proofs.Common.{◌≡◌, ◌≢◌, ℕ, ◌+◌, ◌≤◌, Bool, cond, eqb, true, false, List, [], ◌∷◌, ◌++◌, length, set}
use Rattle.std.proofs.Common.{sym, refl, ap, ◌∙◌, subst, ◌⊎◌, inl, inr, ⊎_elim, append_assoc, append-nil, arith, zero}
use Rattle.std.proofs.Common.{suc, ne_eqb, eq-eqb}
use Rattle.foundation.proofs.TruthValues.{impossible}
use mathlib.Core.Option.{some, some-injective, some-ne-none}
use lib.ListN.{get_elem?}
use Rattle.crossbeam_channel.specs.Fifo.{Pushes, Pops, Forks, Merges, Learns}
use Rattle.atomic_table.proofs.Lists.{at_set, set_else}
use Rattle.crew_channels.specs.declared.results.Results.{Results}
use Rattle.seat_calls.specs.declared.done.Done.{Done}
use Rattle.crew_channels.specs.Results.{results, FitsDriver, FitsSeat, AreBySeat}
use Rattle.seat_calls.specs.Dones.{of}
use Rattle.seat_calls.proofs.DoneLemmas.{of_append}
use Rattle.foundation.proofs.Choices.{cond_true, cond_false}

abbrev Fits : ℕ → ℕ → (ℕ → ℕ) → (ℕ → List Done) → List Done → ℕ → Results → Type 0
Fits reader made seat sent got port v = FitsDriver reader made got port v × FitsSeat made seat sent port v

abbrev All : (ℕ → Results → Type 0) → List Results → Type 0
All F views = (port : ℕ) (v : Results) → get_elem? views port ≡ some v → F port v

all_set : (F : ℕ → Results → Type 0) (views : List Results) (port : ℕ) (w : Results) → F port w
    → ((j : ℕ) (u : Results) → j ≢ port → get_elem? views j ≡ some u → F j u) → All F (set views port w)
all_set F views port w mine others j u e =
    ⊎_elim (λ (x : (j ≡ port) × (w ≡ u)). subst (λ (y : ℕ × Results). F y.0 y.1) (λ i. (sym x.0 i, x.1 i)) mine)
    (λ (x : (j ≢ port) × (get_elem? views j ≡ some u)). others j u x.0 x.1) (at_set views port j w u e)

at_end : (l : List Results) (a b : Results) (j : ℕ) → get_elem? (l ++ a ∷ []) j ≡ some b
    → (get_elem? l j ≡ some b) ⊎ ((length l ≡ j) × (a ≡ b))
at_end [] a b zero e = inr (refl, some-injective a b e)
at_end [] a b (suc j) e = absurd (some-ne-none b (sym e))
at_end (x ∷ xs) a b zero e = inl e
at_end (x ∷ xs) a b (suc j) e = ⊎_elim inl (λ t. inr (ap suc t.0, t.1)) (at_end xs a b j e)

all_end : (F : ℕ → Results → Type 0) (views : List Results) (w : Results) → All F views → F (length views) w
    → All F (views ++ w ∷ [])
all_end F views w old new j u e =
    ⊎_elim (old j u) (λ (x : (length views ≡ j)
    × (w ≡ u)). subst (λ (y : ℕ × Results). F y.0 y.1) (λ i. (x.0 i, x.1 i)) new) (at_end views w u j e)

cond_last : (b : Bool) (l : List Done) (x : Done) → l ++ cond b (x ∷ []) [] ≡ cond b (l ++ x ∷ []) l
cond_last true l x = refl
cond_last false l x = append-nil l

pub puts : (n port : ℕ) (v : Results) (x : Done) → v.sends ≡ true → x.worker ≡ v.worker
    → Pushes AreBySeat n port v x (λ w. w ≡ results v.receives v.sends v.made v.worker (v.sent ++ x ∷ []) v.got)
unfolding of
puts n port v x may own items views room h at =
    let w : Results = results v.receives v.sends v.made v.worker (v.sent ++ x ∷ []) v.got in
    let mine = h.7 port v at in
    let me = mine.1 may in
    let sent : ℕ → List Done = λ p. cond (eqb x.worker p) (h.3 p ++ x ∷ []) (h.3 p) in (
      w,
      (
        h.0,
        h.1,
        h.2,
        sent,
        h.4,
        (λ p. ap (of p) (sym (append_assoc h.4 items (x ∷ []))) ∙ of_append p (h.4 ++ items) (x ∷ [])
            ∙ ap (λ l. l ++ of p (x ∷ [])) (h.5 p) ∙ cond_last (eqb x.worker p) (h.3 p) x),
        (λ p late. cond_false (eqb x.worker p) (h.3 p ++ x ∷ []) (h.3 p)
            (ne_eqb x.worker p (λ e. let l = me.0 in omega arith)) ∙ h.6 p late),
        all_set (Fits h.0 h.1 h.2 sent h.4) views port w (
          mine.0,
          λ _. (
            me.0,
            me.1,
            ap (λ l. l ++ x ∷ []) me.2
                ∙ sym (cond_true (eqb x.worker v.worker) (h.3 v.worker ++ x ∷ []) (h.3 v.worker)
                (eq-eqb x.worker v.worker own)),
          ),
        )
            (λ j u other e. let theirs = h.7 j u e in (
              theirs.0,
              λ s. let t = theirs.1 s in (
                t.0,
                t.1,
                t.2
                    ∙ sym (cond_false (eqb x.worker u.worker) (h.3 u.worker ++ x ∷ []) (h.3 u.worker)
                    (ne_eqb x.worker u.worker (λ same. other (sym t.1 ∙ ap h.2 (sym same ∙ own) ∙ me.1)))),
              ),
            )),
      ),
      refl,
    )

pub takes : (port : ℕ) (v : Results) → v.receives ≡ true
    → Pops AreBySeat port v (λ x w. w ≡ results v.receives v.sends v.made v.worker v.sent (v.got ++ x ∷ []))
takes port v may x items views h at =
    let w : Results = results v.receives v.sends v.made v.worker v.sent (v.got ++ x ∷ []) in
    let mine = h.7 port v at in
    let me = mine.0 may in
    let got = h.4 ++ x ∷ [] in (
      w,
      (
        h.0,
        h.1,
        h.2,
        h.3,
        got,
        (λ p. ap (of p) (append_assoc h.4 (x ∷ []) items) ∙ h.5 p),
        h.6,
        all_set (Fits h.0 h.1 h.2 h.3 got) views port w (λ _. (me.0, me.1, ap (λ l. l ++ x ∷ []) me.2), mine.1)
            (λ j u other e. let theirs = h.7 j u e in (λ d. absurd (other ((theirs.0 d).0 ∙ sym me.0)), theirs.1)),
      ),
      refl,
    )

pub forks : (port : ℕ) (v : Results) → v.receives ≡ true
    → Forks AreBySeat port v (results true false (v.made + 1) 0 [] v.got) (results false true 0 v.made [] [])
forks port v may items views h at =
    let left : Results = results true false (v.made + 1) 0 [] v.got in
    let right : Results = results false true 0 v.made [] [] in
    let me = (h.7 port v at).0 may in
    let new = length (set views port left) in
    let seat : ℕ → ℕ = λ p. cond (eqb p h.1) new (h.2 p) in (
      h.0,
      h.1 + 1,
      seat,
      h.3,
      h.4,
      h.5,
      (λ p late. h.6 p (omega arith)),
      all_end (Fits h.0 (h.1 + 1) seat h.3 h.4) (set views port left) right
          (all_set (Fits h.0 (h.1 + 1) seat h.3 h.4) views port left
          ((λ _. (me.0, ap (λ m. m + 1) me.1, me.2)), λ s. impossible s)
          (λ j u other e. let theirs = h.7 j u e in (
            (λ d. absurd (other ((theirs.0 d).0 ∙ sym me.0))),
            λ s. let t = theirs.1 s in (
              (let l = t.0 in omega arith),
              cond_false (eqb u.worker h.1) new (h.2 u.worker)
                  (ne_eqb u.worker h.1 (λ e. let l = t.0 in omega arith)) ∙ t.1,
              t.2,
            ),
          ))) (
            (λ d. impossible d),
            λ _. (
              (let m = me.1 in omega arith),
              cond_true (eqb v.made h.1) new (h.2 v.made)
                  (eq-eqb v.made h.1 me.1),
              sym (h.6 v.made (let m = me.1 in omega arith)),
            ),
          ),
    )

pub merges : (port : ℕ) (v : Results) (other : ℕ) (w : Results) → v.receives ≡ true → w.sends ≡ true
    → Merges AreBySeat port v other w (results true true v.made w.worker w.sent v.got) (results false false 0 0 [] [])
merges port v other w may serves items views h at apart there =
    let both : Results = results true true v.made w.worker w.sent v.got in
    let spent : Results = results false false 0 0 [] [] in
    let me = (h.7 port v at).0 may in
    let was = sym (set_else views port other both apart) ∙ there in
    let its = (h.7 other w was).1 serves in
    let seat : ℕ → ℕ = λ p. cond (eqb p w.worker) port (h.2 p) in
    let F = Fits h.0 h.1 seat h.3 h.4 in (
      h.0,
      h.1,
      seat,
      h.3,
      h.4,
      h.5,
      h.6,
      all_set F (set views port both) other spent ((λ d. impossible d), λ s. impossible s)
          (λ j u far e. ⊎_elim
          (λ (x : (j ≡ port) × (both ≡ u)). subst (λ (y : ℕ × Results). F y.0 y.1) (λ i. (sym x.0 i, x.1 i)) (
            (λ _. me),
            λ _. (
              its.0,
              cond_true (eqb w.worker w.worker) port (h.2 w.worker)
                  (eq-eqb w.worker w.worker refl),
              its.2,
            ),
          ))
          (λ (x : (j ≢ port) × (get_elem? views j ≡ some u)). let theirs = h.7 j u x.1 in (
            theirs.0,
            λ s. let t = theirs.1 s in (
              t.0,
              cond_false (eqb u.worker w.worker) port (h.2 u.worker)
                  (ne_eqb u.worker w.worker (λ same. far (sym t.1 ∙ ap h.2 same ∙ its.1))) ∙ t.1,
              t.2,
            ),
          ))
          (at_set views port j both u e)),
    )

pub learns : (port : ℕ) (v : Results) → v.receives ≡ true → v.sends ≡ true
    → Learns AreBySeat port v (λ items. (of v.worker (v.got ++ items) ≡ v.sent)
    × ((p : ℕ) → v.made ≤ p → of p (v.got ++ items) ≡ []))
learns port v may serves items views h at =
    let me = h.7 port v at in
    let got = me.0 may in (
      ap (λ l. of v.worker (l ++ items)) got.2 ∙ h.5 v.worker ∙ sym (me.1 serves).2,
      λ p late. ap (λ l. of p (l ++ items)) got.2 ∙ h.5 p ∙ h.6 p (subst (λ m. m ≤ p) got.1 late),
    )

pub begins : AreBySeat [] (results true false 0 0 [] [] ∷ [])
unfolding of
begins = (
  0,
  0,
  (λ _. 0),
  (λ _. []),
  [],
  (λ _. refl),
  (λ _ _. refl),
  λ port v e. ⊎_elim (λ (x : get_elem? [] port ≡ some v). absurd (some-ne-none v (sym x)))
      (λ (x : (0 ≡ port) × (results true false 0 0 [] [] ≡ v)).
      subst (λ (y : ℕ × Results). Fits 0 0 (λ _. 0) (λ _. []) [] y.0 y.1) (λ i. (x.0 i, x.1 i))
      ((λ _. (refl, refl, refl)), λ s. impossible s)) (at_end [] (results true false 0 0 [] []) v port e),
)
