-- Readings that follow others, and the cells of a reading that reads no marked cell.
use Rattle.std.proofs.Common.{◌≡◌, Bool, true, false, Option, Some, refl, ap, ◌∙◌}
use Rattle.foundation.proofs.TruthValues.{or_left, or_right}
use Rattle.reading.specs.Reading.{Reading, done, ask}
use Rattle.reading.specs.World.{reads_in, Each}
use Rattle.deploy_cells.specs.Followed.{followed}
use Rattle.bicep_emission.specs.Alike.{seen_in, after}
use Rattle.bicep_emission.proofs.SeenLemmas.{then_seen, seen-continued}

module _ (C D J K A : Type 0) (w : D → Option K) (m : D → Bool) (v : C → Option J) (n : C → Bool)
    (h : C → Reading D K (Option J)) where
  abbrev sees : C → Type 0
  sees c = seen_in w m (h c) ≡ (Some (v c), n c)

  pub seen-followed : (r : Reading C J A) → Each sees (reads_in v r) → seen_in w m (followed h r) ≡ seen_in v n r
  unfolding reads_in followed seen_in
  seen-followed (done o) e = refl
  seen-followed (ask c k) e =
      seen-continued w m (h c) (λ o. followed h (k o))
      ∙ ap (λ t. then_seen t (λ o. seen_in w m (followed h (k o)))) e.0
      ∙ ap (after (n c)) (seen-followed (k (v c)) e.1)

module _ (C J A : Type 0) (v : C → Option J) (n : C → Bool) where
  pub reads-unmarked : (r : Reading C J A) → (seen_in v n r).1 ≡ false → Each (λ c. n c ≡ false) (reads_in v r)
  unfolding reads_in seen_in
  reads-unmarked (done o) e = tt
  reads-unmarked (ask c k) e = (
    or_right (seen_in v n (k (v c))).1 (n c) e,
    reads-unmarked (k (v c)) (or_left (seen_in v n (k (v c))).1 (n c) e),
  )
