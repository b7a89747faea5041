use Rattle.std.proofs.Common.{ap, ◌∙◌}
use Rattle.arm_value.specs.Look.{is_same_folded}
use Rattle.foundation.proofs.AsciiWords.{word}
use Rattle.http_requests.proofs.body.is_word.Goals as goal

pub returns : goal.returns
returns c =
    c.equals_ignore_case.ensures ∙ ap (λ w. is_same_folded w c.args.text.now) (word c.args.word.now c.requires)
