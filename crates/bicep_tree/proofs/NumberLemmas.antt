-- Numbers that are too large.
use Rattle.std.proofs.Common.{◌≡◌, ◌≤◌, ◌^◌, ℕ, false, refl, arith}
use Rattle.foundation.proofs.Comparisons.{lt_false}
use Rattle.bicep_tree.specs.declared.terminal.Terminal.TheVariants.{Other}
use Rattle.bicep_tree.specs.Terminals.{counted}

pub too_large : (n : ℕ) → 2 ^ 63 ≤ n → Other ≡ counted n
too_large n h = rw (lt_false n (2 ^ 63) h) refl
