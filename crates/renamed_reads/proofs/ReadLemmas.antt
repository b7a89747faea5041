-- Guarded cells read what their readings read, and their parents.
use Rattle.std.proofs.Common.{◌≡◌, Bool, true, false, Option, Some, None, refl, ap, ◌∙◌}
use Rattle.std.specs.Prelude.{option_map}
use Rattle.foundation.proofs.Options.{same_some}
use Rattle.arm_value.specs.Json.{Json}
use Rattle.deploy_cells.specs.Cells.{Cell, World, parent, admits}
use Rattle.deploy_cells.specs.Guarded.{Reads, guarded, guarded_by, where_admitted}
use Rattle.bicep_emission.specs.Alike.{Alike, seen_in, after}
use Rattle.cell_renaming.specs.Renaming.{Renaming, IsOneToOne, to_cell, renamed}
use Rattle.cell_renaming.proofs.CellLemmas.{to-from_cell}
use Rattle.cell_renaming.proofs.ParentLemmas.{parents, admits_same, renamed_is}
use Rattle.renamed_reads.specs.Marks.{marked, marked_by}

abbrev there : Cell → Option Cell
there e = Some e

module _ (r : Renaming) (i : IsOneToOne r) (w : World) (marks : Cell → Bool) where
  abbrev Same : Reads (Option Json) → Reads (Option Json) → Type 0
  Same b a = Alike (renamed r w) (marked r marks) w marks b a

  -- a new cell is marked where the cell is
  marked_is : (c d : Cell) → to_cell r c ≡ Some d → marked r marks d ≡ marks c
  marked_is c d e = ap (marked_by marks) (to-from_cell r i c d e)

  where_same : (t : Bool) (a b : Reads (Option Json)) → Same b a → Same (where_admitted t b) (where_admitted t a)
  unfolding seen_in
  where_same true a b h = h
  where_same false a b h = refl

  by_same : (c d : Cell) (o u : Option Cell) (a b : Reads (Option Json)) → to_cell r c ≡ Some d
      → option_map (to_cell r) o ≡ option_map there u → Same b a → Same (guarded_by d u b) (guarded_by c o a)
  unfolding seen_in
  by_same c d None None a b e h k = k
  by_same c d None (Some x) a b e h k = absurd cc
  by_same c d (Some y) None a b e h k = absurd cc
  by_same c d (Some y) (Some x) a b e h k =
      let g : to_cell r y ≡ Some x = same_some h in
      ap
      (λ t. after t (seen_in (renamed r w) (marked r marks) (where_admitted (admits d (renamed r w x)) b)))
      (marked_is y x g)
      ∙ ap (λ v. after (marks y) (seen_in (renamed r w) (marked r marks) (where_admitted (admits d v) b)))
      (renamed_is r i w y x g)
      ∙ ap (λ t. after (marks y) (seen_in (renamed r w) (marked r marks) (where_admitted t b)))
      (admits_same r c d (w y) e)
      ∙ ap (after (marks y)) (where_same (admits c (w y)) a b k)

  pub guarded_same : (c d : Cell) (a b : Reads (Option Json)) → to_cell r c ≡ Some d → Same b a
      → Same (guarded d b) (guarded c a)
  unfolding guarded
  guarded_same c d a b e k = by_same c d (parent c) (parent d) a b e (parents r c d e) k
