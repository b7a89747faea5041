-- Runs of calls that only read.
use Rattle.std.proofs.Common.{ℕ, Bool, refl, ◌∙◌}
use Rattle.arm_edges.specs.Disk.{Parts, Unchanged}
use Rattle.deploy_journal.specs.Reading.{Still}
use Rattle.deploy_journal.proofs.Moments.{goes_then, goes_nowhere}

module _ {D : Type 0} (tells : Bool) (reads : D → Parts) (moment : D → ℕ) (left : D → ℕ → Parts → Type 0) (reach : D
    → ℕ) where
  pub still_refl : (disk : D) → Still tells reads moment left reach disk disk
  still_refl disk = record {
    reads_same = refl;
    reach_same = refl;
    images = λ t. goes_nowhere moment left disk;
  }

  pub still_then : (old mid new : D) → Still tells reads moment left reach old mid
      → Still tells reads moment left reach mid new → Still tells reads moment left reach old new
  still_then old mid new x y = record {
    reads_same = y.reads_same ∙ x.reads_same;
    reach_same = y.reach_same ∙ x.reach_same;
    images = λ t. goes_then moment left Unchanged (λ e d c a b. b ∙ a) old mid new (x.images t) (y.images t);
  }
