use Rattle.std.proofs.Common.{◌∙◌, ap, chars, arith}
use Rattle.arm_eval.specs.Titles.{element}
use Rattle.arm_eval.proofs.TitleLemmas.{spelled_element}
use Rattle.arm_eval.proofs.symbols.element.Goals as goal

pub returns : goal.returns
returns c =
    c.from_string.ensures.characters ∙ ap chars c.in_ok-spelled.ensures
    ∙ spelled_element c.as_str.result.now c.args.index c.as_str.utf8 (omega (arith, c.ranges.index.fits))
    ∙ ap (λ n. element n c.args.index) c.as_str.ensures.characters
