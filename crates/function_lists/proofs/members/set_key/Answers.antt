use Rattle.std.proofs.Common.{◌∙◌}
use Rattle.arm_value.specs.Json.{text, put}
use Rattle.function_lists.proofs.MemberLemmas.{chars_key}
use Rattle.function_lists.proofs.members.set_key.Goals as goal

pub returns : goal.returns
returns c = c.in_ok-set.ensures ∙ (λ i. put (chars_key i) (text (c.in_ok-name.ensures i)) c.args.parts.now)
