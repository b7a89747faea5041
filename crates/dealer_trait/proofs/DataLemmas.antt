-- Values and the data that is written for them.
use Rattle.std.proofs.Common.{◌≡◌, Some, ap, sym, ◌∙◌}
use Rattle.serde_json.specs.Data as d
use Rattle.serde_json.specs.Written.{compact_text}
use Rattle.arm_value.specs.Json.{Json, text}
use Rattle.arm_value.specs.Reading.{data_of, reading}
use Rattle.dealer_trait.specs.Notes.{ReadsBack}
use Rattle.arm_value.proofs.EqualData.{same_data}

some_same : (x y : d.Data) → Some x ≡ Some y → x ≡ y
some_same x y e = cc

-- two values with one compact text are the same
pub same_value : (j k : Json) → ReadsBack j → ReadsBack k → compact_text (data_of j) ≡ compact_text (data_of k) → j ≡ k
same_value j k a b texts = same_data j k (some_same _ _ (sym a ∙ ap reading texts ∙ b))
