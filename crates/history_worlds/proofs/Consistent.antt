-- What is known at a moment is known in one way.
use Rattle.std.proofs.Common.{◌≡◌, Option, Some, None, refl, sym, ap, ◌∙◌}
use Rattle.plan_cells.proofs.KnownLemmas.{same_entry}
use Rattle.arm_value.specs.Json.{Json}
use Rattle.reading.specs.Reading.{done, ask}
use Rattle.reading.specs.Knowledge.{Known, known, absent, missing, Told, value, no_value, waits, finished, by_entry}
use Rattle.reading.specs.Knowledge.{told}
use Rattle.deploy_cells.specs.Cells.{Cell}
use Rattle.deploy_cells.specs.Guarded.{Reads, Meaning}
use Rattle.plan_cells.specs.Known.{outright, by_others, Moment, Table, entry_of, entry_told, IsKnown, is_outright}
use Rattle.plan_cells.specs.Known.{is_told}

-- where both have an entry it is one
abbrev Agree : Known Json → Known Json → Type 0
Agree a b = (o u : Option Json) → a ≡ entry_of o → b ≡ entry_of u → o ≡ u

finished_same : {A : Type 0} (a b : Option A) → finished {C = Cell} a ≡ finished b → a ≡ b
finished_same (Some x) (Some y) e = cc
finished_same (Some x) None e = cc
finished_same None (Some y) e = cc
finished_same None None e = refl

never_waits : {A : Type 0} (c : Cell) (a : Option A) → waits c ≡ finished a → ⊥
never_waits c (Some x) e = cc
never_waits c None e = cc

module _ (A : Type 0) (p q : Table) (agree : (c : Cell) → Agree (p c) (q c)) where
  by_both : (c : Cell) (k : Option Json → Reads A) (a b : Option A) (e f : Known Json) → p c ≡ e → q c ≡ f
      → ((v : Option Json) → told p (k v) ≡ finished a → told q (k v) ≡ finished b → a ≡ b)
      → by_entry c (λ v. told p (k v)) e ≡ finished a → by_entry c (λ v. told q (k v)) f ≡ finished b → a ≡ b
  by_both c k a b missing f i j h g l = absurd (never_waits c a g)
  by_both c k a b (known v) missing i j h g l = absurd (never_waits c b l)
  by_both c k a b absent missing i j h g l = absurd (never_waits c b l)
  by_both c k a b (known v) (known w) i j h g l =
      h (Some v) g (ap (λ o. told q (k o)) (agree c (Some v) (Some w) i j) ∙ l)
  by_both c k a b (known v) absent i j h g l =
      h (Some v) g (ap (λ o. told q (k o)) (agree c (Some v) None i j) ∙ l)
  by_both c k a b absent (known w) i j h g l =
      h None g (ap (λ o. told q (k o)) (agree c None (Some w) i j) ∙ l)
  by_both c k a b absent absent i j h g l = h None g l

  -- what both tell is one
  told_agree : (r : Reads A) (a b : Option A) → told p r ≡ finished a → told q r ≡ finished b → a ≡ b
  unfolding told
  told_agree (done o) a b e f = finished_same a b (sym e ∙ f)
  told_agree (ask c k) a b e f =
      by_both c k a b (p c) (q c) refl refl (λ v g h. told_agree (k v) a b g h) e f

abbrev flat : Option (Option Json) → Option Json
flat None = None
flat (Some o) = o

-- what an entry was told by
record IsFinished (t : Told Cell (Option Json)) (o : Option Json) : Type 0 where
  by : Option (Option Json)
  is : t ≡ finished by
  same : flat by ≡ o

finished_by : (t : Told Cell (Option Json)) (o : Option Json) → entry_told t ≡ entry_of o → IsFinished t o
finished_by (value s) o e = record { by = Some s; is = refl; same = same_entry s o e }
finished_by no_value o e = record { by = None; is = refl; same = same_entry None o e }
finished_by (waits d) (Some v) e = let f : missing ≡ known v = e in cc
finished_by (waits d) None e = let f : missing ≡ absent = e in cc

others_not : (o : Option Json) → outright o ≡ by_others → ⊥
others_not o e = cc

outright_same : (o u : Option Json) → outright o ≡ outright u → o ≡ u
outright_same o u e = cc

module _ (m : Meaning) (n : Moment) where
  pub one_known : (c : Cell) (o u : Option Json) → IsKnown m n c o → IsKnown m n c u → o ≡ u
  one_known c o u (is_outright _ _ e) (is_outright _ _ f) = outright_same o u (sym e ∙ f)
  one_known c o u (is_outright _ _ e) (is_told _ _ q b g f) = absurd (others_not o (sym e ∙ b))
  one_known c o u (is_told _ _ p b h e) (is_outright _ _ f) = absurd (others_not u (sym f ∙ b))
  one_known c o u (is_told _ _ p b h e) (is_told _ _ q a g f) =
      let i = finished_by (told p (m c)) o e in
      let j = finished_by (told q (m c)) u f in
      sym i.same
      ∙ (ap flat
      (told_agree (Option Json) p q (λ d s t k l. one_known d s t (h d s k) (g d t l)) (m c) i.by j.by i.is j.is)
      ∙ j.same)
