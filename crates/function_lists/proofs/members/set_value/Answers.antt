use Rattle.std.proofs.Common.{◌∙◌}
use Rattle.arm_value.specs.Json.{put}
use Rattle.arm_value.specs.View.{json}
use Rattle.function_lists.proofs.MemberLemmas.{chars_value}
use Rattle.function_lists.proofs.members.set_value.Goals as goal

pub returns : goal.returns
returns c = c.in_ok-set.ensures ∙ (λ i. put (chars_value i) (json (c.in_ok-value.ensures i)) c.args.parts.now)
