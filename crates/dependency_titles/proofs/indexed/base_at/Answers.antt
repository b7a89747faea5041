use Rattle.std.proofs.Common.{◌∙◌, arith, rules}
use Rattle.dependency_titles.proofs.IndexLemmas.{ends_so, base_is, no_base}
use Rattle.dependency_titles.proofs.indexed.base_at.Goals as goal

pub returns-in-Some : goal.returns-in-Some
returns-in-Some c =
    let k = c.in-Some.ensures.cases in
    let small = c.ranges.index.fits in
    let written = c.as_str-2.ensures.value ∙ c.in_ok-index.ensures in
    base_is c.args.text.now c.as_str.result.now c.in-Some.base.now c.in_ok-of-in-Some.field-0 c.args.index
    (omega (arith, small)) c.as_str.ensures.characters
    (ends_so c.as_str.result.now c.as_str-2.result.now _ c.in-Some.base.now k.0 k.1 k.2 written)
    (search rules) c.in_ok-of-in-Some.ensures

pub returns : goal.returns
returns c =
    let small = c.ranges.index.fits in
    let written = c.as_str-2.ensures.value ∙ c.in_ok-index.ensures in
    no_base c.args.text.now c.as_str.result.now c.as_str-2.result.now c.args.index (omega (arith, small))
    c.as_str.ensures.bytes written c.in-None.ensures.cases
