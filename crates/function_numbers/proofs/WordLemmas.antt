-- Names that compare whatever the case of their letters.
use Rattle.std.proofs.Common.{◌≡◌, ◌↔◌, ℕ, List, Bool, IsTrue, codes, refl}
use Rattle.std.specs.Str.{chars}
use Rattle.arm_value.specs.Look.{fold, is_same_folded}
use Rattle.arm_value.proofs.TextLemmas as texts

-- a test that holds where two texts are equal folded
pub is_folded : (r : Bool) (s t : List ℕ) → IsTrue r ↔ (fold s ≡ fold t) → r ≡ is_same_folded s t
is_folded r s t h = texts.is_folded r s t h.0 h.1

pub chars_true : chars (codes "true") ≡ codes "true"
unfolding chars
chars_true = refl

pub chars_false : chars (codes "false") ≡ codes "false"
unfolding chars
chars_false = refl
