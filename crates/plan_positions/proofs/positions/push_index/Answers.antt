use Rattle.std.proofs.Common.{◌∙◌, ◌++◌, sym, ap, arith, chars, string_bytes}
use Rattle.foundation.proofs.Options.{if_ok}
use Rattle.plan_paths.specs.Texts.{index_of}
use Rattle.plan_positions.proofs.PositionLemmas.{index_is}
use Rattle.plan_positions.proofs.positions.push_index.Goals as goal

pub returns-in_ok-index-in-Some : goal.returns-in_ok-index-in-Some
returns-in_ok-index-in-Some c =
    if_ok _ _ c.push_text.result c.push_text.ensures (λ u e.
    e ∙ ap (λ x. chars (string_bytes c.args.position.now) ++ x)
    (index_is c.as_str.result.now c.args.index c.in-Some.field-0 (omega (arith, c.ranges.index.fits))
    (c.as_str.ensures.value ∙ c.in_ok-index-in-Some.ensures) ∙ ap (λ o. index_of o c.args.index) (sym c.in-Some.is)))
