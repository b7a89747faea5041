use Rattle.std.proofs.Common.{◌∙◌, ap, bytes_eq}
use Rattle.arm_value.proofs.text.Text.is_same.Goals as goal

pub returns : goal.returns
returns c = c.equals.ensures ∙ ap (λ t. bytes_eq t c.args.other.now) c.as_str.ensures.characters
