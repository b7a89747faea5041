use Rattle.std.proofs.Common.{◌∙◌, ap, chars, arith}
use Rattle.arm_eval.specs.Titles.{element}
use Rattle.plan_codes.specs.NameCodes.{symbolic}
use Rattle.name_tags.proofs.tag.element_tag.Goals as goal
use Rattle.foundation.proofs.Options.{if_ok}
use Rattle.arm_eval.proofs.TitleLemmas.{spelled_element}

pub returns : goal.returns
returns c =
    if_ok _ _ c.symbol_tag.result c.symbol_tag.ensures (λ t e.
    e
    ∙ ap (λ b. symbolic c.args.scope (chars b)) (c.as_str-2.ensures.value ∙ c.in_ok-element.ensures)
    ∙ ap (symbolic c.args.scope)
    (spelled_element c.as_str.result.now c.args.copy c.as_str.utf8 (omega (arith, c.ranges.copy.fits))
    ∙ ap (λ n. element n c.args.copy) c.as_str.ensures.characters))
