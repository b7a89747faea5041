use Rattle.std.proofs.Common.{◌≡◌, ℕ, List, Option, Some, None, option_map, ap}
use Rattle.arm_value.specs.Json.{text}
use Rattle.function_prints.specs.Format.{filled}
use Rattle.function_prints.proofs.PieceLemmas.{pieces_filled, is_spelled}
use Rattle.function_prints.proofs.laws.format_fills_pieces.Goals as goal

text_is : (o : Option (List ℕ)) (t : List ℕ) → option_map text o ≡ Some (text t) → o ≡ Some t
text_is None t e = absurd (cc)
text_is (Some s) t e = cc

pub returns-clause-pieces : goal.returns-clause-pieces
returns-clause-pieces c args ps t e = ap (option_map text) (pieces_filled args ps t e)

pub returns-clause-no_others : goal.returns-clause-no_others
returns-clause-no_others c args s t e = is_spelled args s t (text_is (filled args s) t e)
