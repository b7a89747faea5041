use Rattle.std.proofs.Common.{◌∙◌, ap, bytes_eq, chars}
use Rattle.arm_value.proofs.TextLemmas.{bytes_eq-chars}
use Rattle.arm_value.proofs.text.Text.equals.Goals as goal

pub returns : goal.returns
returns c = c.eq.ensures ∙ bytes_eq-chars c.args.other.now c.as_str.result.now c.utf8.other c.as_str.utf8
    ∙ ap (bytes_eq (chars c.args.other.now)) c.as_str.ensures.characters
