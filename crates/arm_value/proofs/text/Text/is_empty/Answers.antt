use Rattle.std.proofs.Common.{◌∙◌}
use Rattle.arm_value.proofs.TextLemmas.{empty_by_bytes}
use Rattle.arm_value.proofs.text.Text.is_empty.Goals as goal

pub returns : goal.returns
returns c = c.is_empty.ensures ∙ empty_by_bytes c.args.self.now c.as_str.result.now c.as_str.ensures.bytes
