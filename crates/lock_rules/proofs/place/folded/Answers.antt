use Rattle.std.proofs.Common.{◌∙◌}
use Rattle.arm_ids.proofs.TextLemmas.{folded_chars}
use Rattle.lock_rules.proofs.place.folded.Goals as goal

pub returns : goal.returns
returns c =
    folded_chars c.from_string.result c.args.text.now c.utf8.text
    (c.from_string.ensures.bytes ∙ c.in_ok-folded.ensures.ok)
