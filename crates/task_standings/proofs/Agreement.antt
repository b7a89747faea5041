-- What is known at one moment agrees: two tables of it have a table with both.
use Rattle.std.proofs.Common.{◌≡◌, inl, inr, List, [], ◌∷◌, Option, Some, None, refl, sym, ap, subst, ◌∙◌}
use Rattle.board_history.proofs.KnownLemmas.{same_entry}
use Rattle.arm_value.specs.Json.{Json}
use Rattle.reading.specs.Reading.{done, ask}
use Rattle.reading.specs.World.{reads_in}
use Rattle.reading.specs.Knowledge.{Known, known, absent, missing, Told, value, no_value, waits, finished, by_entry}
use Rattle.reading.specs.Knowledge.{told}
use Rattle.reading.specs.Knowledge.{known_value, blanked, Holds, Completes, Stays, Grows, Has, IsToldStill}
use Rattle.reading.proofs.Growth.{told_still}
use Rattle.deploy_cells.specs.Cells.{Cell, World}
use Rattle.deploy_cells.specs.Guarded.{Reads, Meaning}
use Rattle.board_history.specs.Known.{Access, outright, by_others, Moment, Table, entry_of, entry_told, IsKnown, is_outright, is_told}

same_outright : (o u : Option Json) → outright o ≡ outright u → o ≡ u
same_outright o u e = cc

outright_or : (a : Access) (o u : Option Json) → a ≡ outright o → a ≡ by_others → o ≡ u
outright_or a o u e f = cc

-- ---- the table of both

abbrev pub known_or : Known Json → Known Json → Known Json
known_or (known v) e = known v
known_or absent e = absent
known_or missing e = e

abbrev pub joined : Table → Table → Table
joined p q c = known_or (p c) (q c)

left_stays : (e f : Known Json) → Stays e (known_or e f)
left_stays (known v) f = refl
left_stays absent f = refl
left_stays missing f = tt

stays_itself : (e : Known Json) → Stays e e
stays_itself (known v) = refl
stays_itself absent = refl
stays_itself missing = tt

right_stays : (e f : Known Json) → ((o u : Option Json) → e ≡ entry_of o → f ≡ entry_of u → o ≡ u)
    → Stays f (known_or e f)
right_stays (known v) (known w) h = ap entry_of (h (Some v) (Some w) refl refl)
right_stays (known v) absent h = ap entry_of (h (Some v) None refl refl)
right_stays (known v) missing h = tt
right_stays absent (known w) h = ap entry_of (h None (Some w) refl refl)
right_stays absent absent h = refl
right_stays absent missing h = tt
right_stays missing f h = stays_itself f

abbrev pub AreOne : Table → Table → Type 0
AreOne p q = (c : Cell) (o u : Option Json) → p c ≡ entry_of o → q c ≡ entry_of u → o ≡ u

pub grows_left : (p q : Table) → Grows p (joined p q)
grows_left p q c = left_stays (p c) (q c)

pub grows_right : (p q : Table) → AreOne p q → Grows q (joined p q)
grows_right p q h c = right_stays (p c) (q c) (h c)

-- ---- what is known of a cell is one

entry_by_told : (r : Told Cell (Option Json)) (q : Table) (m : Reads (Option Json)) (o : Option Json)
    → IsToldStill q m r → entry_told r ≡ entry_of o → entry_told (told q m) ≡ entry_of o
entry_by_told (value u) q m o s e = ap entry_told s ∙ e
entry_by_told no_value q m o s e = ap entry_told s ∙ e
entry_by_told (waits d) q m (Some x) s e = cc
entry_by_told (waits d) q m None s e = cc

entry_still : (p q : Table) → Grows p q → (m : Reads (Option Json)) (o : Option Json)
    → entry_told (told p m) ≡ entry_of o → entry_told (told q m) ≡ entry_of o
entry_still p q g m o e = entry_by_told (told p m) q m o (told_still Cell Json (Option Json) p q g m) e

module _ (m : Meaning) (n : Moment) where
  pub one_known : (c : Cell) (o u : Option Json) → IsKnown m n c o → IsKnown m n c u → o ≡ u
  one_known c o u (is_outright _ _ e) (is_outright _ _ f) = same_outright o u (sym e ∙ f)
  one_known c o u (is_outright _ _ e) (is_told _ _ q b h f) = outright_or (n c) o u e b
  one_known c o u (is_told _ _ p b h e) (is_outright _ _ f) = sym (outright_or (n c) u o f b)
  one_known c o u (is_told _ _ p b h e) (is_told _ _ q b2 h2 f) =
      same_entry o u (sym (entry_still p (joined p q) (grows_left p q) (m c) o e)
      ∙ entry_still q (joined p q)
      (grows_right p q (λ d v w i j. one_known d v w (h d v i) (h2 d w j))) (m c) u f)

-- ---- what is read

holds_more : (e f : Known Json) → Stays e f → Holds (known_value f) e
holds_more (known v) f s = ap known_value s
holds_more absent f s = ap known_value s
holds_more missing f s = tt

pub more_completes : (p q : Table) → Grows p q → Completes p (blanked q)
more_completes p q g c = holds_more (p c) (q c) (g c)

module _ (A : Type 0) (p : Table) (w : World) (all : Completes p w) where
  not_done : (o : Option A) (c : Cell) (cs : List Cell) → finished o ≡ waits c → Has c cs
  not_done (Some x) c cs e = cc
  not_done None c cs e = cc

  same_cell : (c d : Cell) (z : Told Cell A) → z ≡ waits d → z ≡ waits c → d ≡ c
  same_cell c d z e f = let g = sym e ∙ f in cc

  by_case : (c d : Cell) (k : Option Json → Reads A) (e : Known Json) → p d ≡ e
      → by_entry d (λ v. told p (k v)) e ≡ waits c
      → ((v : Option Json) → told p (k v) ≡ waits c → Has c (reads_in w (k v))) → Has c (d ∷ reads_in w (k (w d)))
  by_case c d k (known v) e f h =
      let g : w d ≡ Some v = subst (Holds (w d)) e (all d) in
      inr (subst (λ (o : Option Json). Has c (reads_in w (k o))) (sym g) (h (Some v) f))
  by_case c d k absent e f h =
      let g : w d ≡ None = subst (Holds (w d)) e (all d) in
      inr (subst (λ (o : Option Json). Has c (reads_in w (k o))) (sym g) (h None f))
  by_case c d k missing e f h = inl (same_cell c d (by_entry d (λ v. told p (k v)) missing) refl f)

  -- a cell that is waited for is read in each completion
  pub awaited_is_read : (r : Reads A) (c : Cell) → told p r ≡ waits c → Has c (reads_in w r)
  unfolding told reads_in
  awaited_is_read (done o) c e = not_done o c [] e
  awaited_is_read (ask d k) c e = by_case c d k (p d) refl e (λ v f. awaited_is_read (k v) c f)
