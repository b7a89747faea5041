-- Whether a reading reads a marked cell, cell by cell.
use Rattle.std.proofs.Common.{◌≡◌, inl, inr, Bool, true, false, true≢false, List, ◌∷◌, refl, sym, ap, ◌∙◌}
use Rattle.std.specs.Prelude.{◌||◌}
use Rattle.std.proofs.lemmas.Bool.{or_left, or_right}
use Rattle.reading.specs.Reading.{done, ask}
use Rattle.reading.specs.Knowledge.{Has}
use Rattle.reading.specs.World.{reads_in}
use Rattle.deploy_cells.specs.Cells.{Cell, World}
use Rattle.deploy_cells.specs.Guarded.{Reads}
use Rattle.bicep_emission.specs.Alike.{seen_in}

-- a cell of these that is marked
pub record Marked (m : Cell → Bool) (cs : List Cell) : Type 0 where
  pub cell : Cell
  pub is_read : Has cell cs
  pub is_marked : m cell ≡ true

later : (m : Cell → Bool) (c : Cell) (cs : List Cell) → Marked m cs → Marked m (c ∷ cs)
later m c cs h = record { cell = h.cell; is_read = inr h.is_read; is_marked = h.is_marked }

by_bools : (m : Cell → Bool) (c : Cell) (cs : List Cell) (a b : Bool) → m c ≡ b → (a || b) ≡ true
    → (a ≡ true → Marked m cs) → Marked m (c ∷ cs)
by_bools m c cs true b g e h = later m c cs (h refl)
by_bools m c cs false true g e h = record { cell = c; is_read = inl refl; is_marked = g }
by_bools m c cs false false g e h = absurd (true≢false (sym e))

module _ {A : Type 0} (w : World) (m : Cell → Bool) where
  here_or_later : (c : Cell) (r : Reads A) (x : Cell) → Has x (c ∷ reads_in w r) → m x ≡ true
      → (Marked m (reads_in w r) → (seen_in w m r).1 ≡ true) → ((seen_in w m r).1 || m c) ≡ true
  here_or_later c r x (inl e) g h = or_right (seen_in w m r).1 (m c) (ap m e ∙ g)
  here_or_later c r x (inr e) g h =
      or_left (seen_in w m r).1 (m c) (h (record { cell = x; is_read = e; is_marked = g }))

  pub is_seen : (r : Reads A) → Marked m (reads_in w r) → (seen_in w m r).1 ≡ true
  unfolding reads_in seen_in
  is_seen (done o) h = absurd h.is_read
  is_seen (ask c k) h = here_or_later c (k (w c)) h.cell h.is_read h.is_marked (is_seen (k (w c)))

  pub seen_is : (r : Reads A) → (seen_in w m r).1 ≡ true → Marked m (reads_in w r)
  unfolding reads_in seen_in
  seen_is (done o) e = absurd (true≢false (sym e))
  seen_is (ask c k) e =
      by_bools m c (reads_in w (k (w c))) (seen_in w m (k (w c))).1 (m c) refl e (seen_is (k (w c)))
