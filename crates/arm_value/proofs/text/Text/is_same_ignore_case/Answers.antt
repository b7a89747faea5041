use Rattle.std.proofs.Common.{◌∙◌, ap}
use Rattle.arm_value.specs.Look.{is_same_folded}
use Rattle.arm_value.proofs.text.Text.is_same_ignore_case.Goals as goal

pub returns : goal.returns
returns c = c.equals_ignore_case.ensures ∙ ap (λ t. is_same_folded t c.args.other.now) c.as_str.ensures.characters
