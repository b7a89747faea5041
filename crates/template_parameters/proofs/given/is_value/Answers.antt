use Rattle.std.proofs.Common.{◌∙◌, ap, codes, refl}
use Rattle.arm_value.specs.Look.{is_same_folded}
use Rattle.foundation.proofs.AsciiWords.{word}
use Rattle.template_parameters.proofs.given.is_value.Goals as goal

pub returns : goal.returns
returns c = c.equals_ignore_case.ensures ∙ ap (λ w. is_same_folded w c.args.name.now) (word (codes "value") refl)
