-- Limits of resources.
use Rattle.std.proofs.Common.{◌≤◌, ◌+◌, ℕ, suc, max, None, arith}
use Rattle.bicep_declared.specs.Declarations.{BodyTree}
use Rattle.emitted_values.specs.Templates as t
use Rattle.measured_trees.specs.Extremes.{tree_extremes}
use Rattle.measured_trees.specs.Limits.{IsBeyond}
use Rattle.measured_trees.proofs.WithinLemmas.{tree_small}
use Rattle.emitted_values.specs.Seen.{Shape, whole_in}
use Rattle.emitted_resources.specs.Limits.{head_extremes, resource_extremes, members_at, MembersFit}

second : (a b n : ℕ) → max a b ≤ n → b ≤ n
second a b n h = omega (arith, h)

flat : (around a m : ℕ) → around + max a (suc m) ≤ 120 → m ≤ 119
flat around a m h = omega (arith, h)

pub members_fit : (s : Shape) (n : ℕ) (b : BodyTree) (around : ℕ) → IsBeyond around (resource_extremes s n b) None
    → MembersFit (members_at s n b)
members_fit s n b around h =
    let x = head_extremes (whole_in s) n b.each in
    let y = tree_extremes (t.object (members_at s n b)) in
    record {
      small = tree_small (t.object (members_at s n b)) (second x.longest y.longest _ h.0)
          (second x.deepest y.deepest _ h.1.1);
      nests = flat around x.depth _ h.1.0;
    }
