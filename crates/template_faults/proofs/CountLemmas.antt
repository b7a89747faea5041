-- The number of items and of members.
use Rattle.std.proofs.Common.{◌≡◌, suc, List, [], ◌∷◌, length, refl, ap}
use Rattle.arm_value.specs.Json.{Member, pairs}
use Rattle.template_faults.specs.Counts.{pairs_length}

pub pairs_length_pairs : (ms : List Member) → pairs_length (pairs ms) ≡ length ms
pairs_length_pairs [] = refl
pairs_length_pairs (m ∷ ms) = ap suc (pairs_length_pairs ms)
