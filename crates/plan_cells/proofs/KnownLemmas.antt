-- What is known at a moment is so in worlds, and in the one table of it.
use Rattle.std.proofs.Common.{◌≡◌, Option, Some, None, refl, sym, ap, ◌∙◌}
use Rattle.template_parameters.specs.Json.{Json}
use Rattle.reading.specs.Knowledge.{Known, known, absent, missing, Told, value, no_value, waits, told, Holds}
use Rattle.reading.specs.Knowledge.{Completes}
use Rattle.reading.specs.Knowledge.{Means, Stays, IsToldStill}
use Rattle.reading.proofs.Completion.{told_means}
use Rattle.reading.proofs.Growth.{told_still}
use Rattle.deploy_cells.specs.Cells.{Cell, World}
use Rattle.deploy_cells.specs.Guarded.{Reads, Meaning, IsWorld}
use Rattle.plan_cells.specs.Known.{by_others, Moment, Table, entry_of, entry_told, IsKnown}
use Rattle.plan_cells.specs.Known.{is_outright, is_told, entry_by, IsTable, IsTrueIn}
use Rattle.plan_cells.specs.Start.{IsSo}

pub same_entry : (o u : Option Json) → entry_of o ≡ entry_of u → o ≡ u
same_entry (Some x) (Some y) e = cc
same_entry (Some x) None e = cc
same_entry None (Some y) e = cc
same_entry None None e = refl

module _ (m : Meaning) (n : Moment) (w : World) (world : IsWorld m w) (holds : IsTrueIn w n) where
  holds_of : (d : Cell) (p : Table) → ((u : Option Json) → p d ≡ entry_of u → w d ≡ u) → (e : Known Json) → p d ≡ e
      → Holds (w d) e
  holds_of d p h (known v) e = h (Some v) e
  holds_of d p h absent e = h None e
  holds_of d p h missing e = tt

  by_told : (c : Cell) (o : Option Json) (p : Table) → Completes p w → (r : Told Cell (Option Json))
      → Means p (m c) r → entry_told r ≡ entry_of o → w c ≡ o
  by_told c o p all (value x) s e =
      let here : Some (w c) ≡ Some x = sym (world c) ∙ (s.everywhere w all).0 in
      let at : w c ≡ x = cc in at ∙ same_entry x o e
  by_told c o p all no_value s e =
      let here : Some (w c) ≡ None = sym (world c) ∙ (s.everywhere w all).0 in cc
  by_told c (Some x) p all (waits d) s e = cc
  by_told c None p all (waits d) s e = cc

  pub so_in_worlds : (c : Cell) (o : Option Json) → IsKnown m n c o → w c ≡ o
  so_in_worlds c o (is_outright _ _ e) = holds c o e
  so_in_worlds c o (is_told _ _ p b h e) =
      by_told c o p (λ d. holds_of d p (λ u f. so_in_worlds d u (h d u f)) (p d) refl) (told p (m c))
      (told_means _ _ _ p (m c)) e

  pub completes : (q : Table) → IsTable m n q → Completes q w
  completes q t = λ d. holds_of d q (λ u f. so_in_worlds d u (t.is_known d u f)) (q d) refl

module _ (m : Meaning) (n : Moment) (q : Table) (t : IsTable m n q) where
  stays_of : (d : Cell) (p : Table) → ((u : Option Json) → p d ≡ entry_of u → q d ≡ entry_of u) → (e : Known Json)
      → p d ≡ e → Stays e (q d)
  stays_of d p h (known v) e = h (Some v) e
  stays_of d p h absent e = h None e
  stays_of d p h missing e = tt

  by_growth : (c : Cell) (o : Option Json) → n c ≡ by_others → (r : Told Cell (Option Json))
      → IsToldStill q (m c) r → entry_told r ≡ entry_of o → q c ≡ entry_of o
  by_growth c o b (value x) s e =
      t.closed c ∙ ap (λ a. entry_by a (entry_told (told q (m c)))) b ∙ ap entry_told s ∙ e
  by_growth c o b no_value s e =
      t.closed c ∙ ap (λ a. entry_by a (entry_told (told q (m c)))) b ∙ ap entry_told s ∙ e
  by_growth c (Some x) b (waits d) s e = cc
  by_growth c None b (waits d) s e = cc

  pub has_known : (c : Cell) (o : Option Json) → IsKnown m n c o → q c ≡ entry_of o
  has_known c o (is_outright _ _ e) = t.closed c ∙ ap (λ a. entry_by a (entry_told (told q (m c)))) e
  has_known c o (is_told _ _ p b h e) =
      by_growth c o b (told p (m c))
      (told_still _ _ _ p q (λ d. stays_of d p (λ u f. has_known d u (h d u f)) (p d) refl) (m c)) e

module _ (m : Meaning) (n : Moment) (q r : Table) (t : IsTable m n q) (u : IsTable m n r) where
  -- what one has the other has
  has_too : (c : Cell) (o : Option Json) → q c ≡ entry_of o → r c ≡ entry_of o
  has_too c o e = has_known m n r u c o (t.is_known c o e)

  back_too : (c : Cell) (o : Option Json) → r c ≡ entry_of o → q c ≡ entry_of o
  back_too c o e = has_known m n q t c o (u.is_known c o e)

  by_entries : (c : Cell) (x y : Known Json) → q c ≡ x → r c ≡ y → x ≡ y
  by_entries c (known v) y e f = sym (has_too c (Some v) e) ∙ f
  by_entries c absent y e f = sym (has_too c None e) ∙ f
  by_entries c missing (known v) e f = sym e ∙ back_too c (Some v) f
  by_entries c missing absent e f = sym e ∙ back_too c None f
  by_entries c missing missing e f = refl

  pub one_entry : (c : Cell) → q c ≡ r c
  one_entry c = by_entries c (q c) (r c) refl refl

module _ (A : Type 0) (w : World) (q : Table) (all : Completes q w) where
  so_of : (r : Reads A) (t : Told Cell A) → Means q r t → IsSo w r t
  so_of r (value x) s = (s.everywhere w all).0
  so_of r no_value s = (s.everywhere w all).0
  so_of r (waits c) s = tt

  pub told_so : (r : Reads A) → IsSo w r (told q r)
  told_so r = so_of r (told q r) (told_means _ _ _ q r)
