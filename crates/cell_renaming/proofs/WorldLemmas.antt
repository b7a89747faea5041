-- Worlds in which each cell is what it is by others, and the same of renamed worlds.
use Rattle.std.proofs.Common.{◌≡◌, ◌<◌, ℕ, zero, suc, Option, Some, None, sym, ap, ◌∙◌, arith}
use Rattle.std.specs.Prelude.{option_and_then}
use Rattle.foundation.proofs.Options.{same_some}
use Rattle.reading.specs.World.{value_in}
use Rattle.deploy_cells.specs.Cells.{Cell, World, depth}
use Rattle.deploy_cells.specs.Guarded.{Meaning, IsWorld}
use Rattle.deploy_cells.specs.Puts.{Desired}
use Rattle.deploy_cells.proofs.CellLemmas.{parent_above}
use Rattle.cell_renaming.specs.Renaming.{Renaming, IsOneToOne, to_cell, from_cell, renamed, unrenamed, IsRenamable}
use Rattle.cell_renaming.specs.Renamed.{AreUndeclared, IsRenamed, IsEither}
use Rattle.cell_renaming.proofs.OptionLemmas.{Either, there, nowhere, either}
use Rattle.cell_renaming.proofs.CellLemmas.{from-to_cell}
use Rattle.cell_renaming.proofs.ParentLemmas.{renamed_is}

-- worlds that have the same for each cell are one
pub everywhere : (w v : World) → ((c : Cell) → w c ≡ v c) → w ≡ v
everywhere w v e i c = e c i

-- a world has no entries for what is not declared
pub only_declared : (f : Cell → Option Cell) (m : Meaning) (w : World) → AreUndeclared f m → IsWorld m w
    → (n : ℕ) (c : Cell) → depth c < n → f c ≡ None → w c ≡ None
only_declared f m w u h zero c l e = absurd (omega (arith, l))
only_declared f m w u h (suc n) c l e =
    same_some
    (sym (h c) ∙ u w c e (λ d p g. only_declared f m w u h n d (omega (arith, l, parent_above c d p)) g))

module _ (r : Renaming) (i : IsOneToOne r) (s t : Desired) (h : IsRenamed r s t) where
  pub renamable : (w : World) → IsWorld s.meaning w → IsRenamable r w
  renamable w a c e = only_declared (to_cell r) s.meaning w h.undeclared a (suc (depth c)) c (omega arith) e

  world_by : (w : World) → IsRenamable r w → IsEither r s t w → IsWorld s.meaning w → (d : Cell)
      → Either (from_cell r d) → value_in (renamed r w) (t.meaning d) ≡ Some (renamed r w d)
  world_by w n g a d (there c e) =
      h.means w n g c d (from-to_cell r i d c e) ∙ a c ∙ sym (ap (λ o. Some (option_and_then w o)) e)
  world_by w n g a d (nowhere e) =
      h.undeclared_renamed (renamed r w) d e (λ p above k. ap (option_and_then w) k)
      ∙ sym (ap (λ o. Some (option_and_then w o)) e)

  pub world_forth : (w : World) → IsRenamable r w → IsEither r s t w → IsWorld s.meaning w
      → IsWorld t.meaning (renamed r w)
  world_forth w n g a d = world_by w n g a d (either (from_cell r d))

  back_by : (w : World) → IsRenamable r w → IsEither r s t w → IsWorld t.meaning (renamed r w) → (c : Cell)
      → Either (to_cell r c) → value_in w (s.meaning c) ≡ Some (w c)
  back_by w n g a c (there d e) = sym (h.means w n g c d e) ∙ a d ∙ ap (λ v. Some v) (renamed_is r i w c d e)
  back_by w n g a c (nowhere e) = h.undeclared w c e (λ p above k. n p k) ∙ ap (λ v. Some v) (sym (n c e))

  pub world_back : (w : World) → IsRenamable r w → IsEither r s t w → IsWorld t.meaning (renamed r w)
      → IsWorld s.meaning w
  world_back w n g a c = back_by w n g a c (either (to_cell r c))

  renaming_by : (v : World) → IsWorld t.meaning v → (d : Cell) → Either (from_cell r d)
      → renamed r (unrenamed r v) d ≡ v d
  renaming_by v a d (there c e) =
      ap (option_and_then (unrenamed r v)) e ∙ ap (option_and_then v) (from-to_cell r i d c e)
  renaming_by v a d (nowhere e) =
      ap (option_and_then (unrenamed r v)) e
      ∙ sym (only_declared (from_cell r) t.meaning v h.undeclared_renamed a (suc (depth d)) d (omega arith) e)

  pub is_renaming : (v : World) → IsWorld t.meaning v → (d : Cell) → renamed r (unrenamed r v) d ≡ v d
  is_renaming v a d = renaming_by v a d (either (from_cell r d))

  pub unrenamed_renamable : (v : World) → IsRenamable r (unrenamed r v)
  unrenamed_renamable v c e = ap (option_and_then v) e
