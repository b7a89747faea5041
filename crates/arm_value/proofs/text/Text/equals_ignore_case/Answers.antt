use Rattle.std.proofs.Common.{◌∙◌, ap, chars}
use Rattle.arm_value.specs.Look.{is_same_folded}
use Rattle.arm_value.proofs.TextLemmas.{is_folded}
use Rattle.arm_value.proofs.text.Text.equals_ignore_case.Goals as goal

pub returns : goal.returns
returns c =
    is_folded c.folded_eq.result (chars c.args.other.now) (chars c.as_str.result.now) c.folded_eq.ensures.0
    c.folded_eq.ensures.1 ∙ ap (is_same_folded (chars c.args.other.now)) c.as_str.ensures.characters
