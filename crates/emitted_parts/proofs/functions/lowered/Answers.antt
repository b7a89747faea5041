use Rattle.std.proofs.Common.{◌∙◌}
use Rattle.arm_ids.proofs.TextLemmas.{folded_chars}
use Rattle.emitted_parts.proofs.functions.lowered.Goals as goal

pub returns : goal.returns
returns c =
    folded_chars c.from_string.result c.args.name.now c.utf8.name
    (c.from_string.ensures.bytes ∙ c.in_ok-lowered.ensures.ok)
