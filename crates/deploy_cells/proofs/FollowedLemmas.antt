-- A reading that follows others, in a world and by what is known.
use Rattle.std.proofs.Common.{◌≡◌, ◌++◌, Option, Some, None, refl, ap, sym, subst, ◌∙◌}
use Rattle.std.specs.Prelude.{option_and_then}
use Rattle.reading.specs.Reading.{Reading, done, ask}
use Rattle.reading.specs.World.{value_in, reads_in, reads_onward, Each}
use Rattle.reading.specs.Knowledge.{Known, known, absent, missing, Told}
use Rattle.reading.specs.Knowledge.{finished, by_entry, told, known_value, blanked, and_then}
use Rattle.reading.specs.Knowledge.{IsSeen, IsToldThrough}
use Rattle.reading.proofs.Parts.{value_in-continued, reads_in-continued, told-continued}
use Rattle.deploy_cells.specs.Followed.{followed, followed_reads}

module _ (C D J K A : Type 0) (w : D → Option K) (v : C → Option J)
    (h : C → Reading D K (Option J)) where
  abbrev has : C → Type 0
  has c = value_in w (h c) ≡ Some (v c)

  pub value_in-followed : (r : Reading C J A) → Each has (reads_in v r)
      → value_in w (followed h r) ≡ value_in v r
  unfolding value_in reads_in followed
  value_in-followed (done o) e = refl
  value_in-followed (ask c k) e =
      value_in-continued D K (Option J) A w (h c) (λ o. followed h (k o))
      ∙ ap (option_and_then (λ o. value_in w (followed h (k o)))) e.0
      ∙ value_in-followed (k (v c)) e.1

  pub reads_in-followed : (r : Reading C J A) → Each has (reads_in v r)
      → reads_in w (followed h r) ≡ followed_reads w h (reads_in v r)
  unfolding value_in reads_in followed
  reads_in-followed (done o) e = refl
  reads_in-followed (ask c k) e =
      reads_in-continued D K (Option J) A w (h c) (λ o. followed h (k o))
      ∙ ap (λ o. reads_in w (h c) ++ reads_onward w o (λ o. followed h (k o))) e.0
      ∙ ap (λ cs. reads_in w (h c) ++ cs) (reads_in-followed (k (v c)) e.1)

module _ (C D J K A : Type 0) (p : D → Known K) (q : C → Known J)
    (h : C → Reading D K (Option J)) where
  abbrev seen : C → Type 0
  seen c = IsSeen (q c) (told p (h c))

  abbrev same : Told C A → Told D A → Type 0
  same t u = IsToldThrough (λ c. told p (h c)) t u

  same_done : (o : Option A) → same (finished o) (finished o)
  same_done (Some x) = refl
  same_done None = refl

  -- a cell of which exactly as much is known as of its reading
  by_case : (c : C) (k : Option J → Reading C J A) (u : Known J) → IsSeen u (told p (h c))
      → Each seen (reads_in (blanked q) (k (known_value u)))
      → ((o : Option J) → Each seen (reads_in (blanked q) (k o))
      → same (told q (k o)) (told p (followed h (k o))))
      → same (by_entry c (λ o. told q (k o)) u)
      (and_then (told p (h c)) (λ o. told p (followed h (k o))))
  by_case c k (known x) s e f =
      subst (λ (t : Told D (Option J)). same (told q (k (Some x)))
      (and_then t (λ o. told p (followed h (k o))))) (sym s) (f (Some x) e)
  by_case c k absent s e f =
      subst (λ (t : Told D (Option J)). same (told q (k None))
      (and_then t (λ o. told p (followed h (k o))))) (sym s) (f None e)
  by_case c k missing s e f = (s.0, (s.1, ap (λ t. and_then t (λ o. told p (followed h (k o)))) s.1))

  pub told-followed : (r : Reading C J A) → Each seen (reads_in (blanked q) r)
      → same (told q r) (told p (followed h r))
  unfolding told reads_in followed
  told-followed (done o) e = same_done o
  told-followed (ask c k) e =
      subst (same (by_entry c (λ o. told q (k o)) (q c)))
      (sym (told-continued D K (Option J) A p (h c) (λ o. followed h (k o))))
      (by_case c k (q c) e.0 e.1 (λ o f. told-followed (k o) f))
