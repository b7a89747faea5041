use Rattle.std.proofs.Common.{◌∙◌, Some, ap, sym, string_bytes}
use Rattle.std.specs.Str.{chars}
use Rattle.function_prints.proofs.TextLemmas.{scalars_more, scalars_fail, scalars_end}
use Rattle.function_prints.proofs.joining.printed_scalars.Goals as goal

pub loop-value-preserved : goal.loop-value-preserved
loop-value-preserved c =
    scalars_more (chars (string_bytes c.loop-value.out)) (chars (string_bytes c.add.new.out)) c.in-Some.text
    c.args.values.now c.loop-value.value-index c.value-item.result _ c.loop-value-test.true c.value-item.is
    (sym c.in-Some.is ∙ c.in_ok-text.ensures) c.in_ok-add-in-Some.ensures c.loop-value.invariant

pub returns-in-None : goal.returns-in-None
returns-in-None c =
    scalars_fail (chars (string_bytes c.loop-value.out)) c.args.values.now c.loop-value.value-index
    c.value-item.result _ c.loop-value-test.true c.value-item.is (sym c.in-None.is ∙ c.in_ok-text.ensures)
    c.loop-value.invariant

pub returns : goal.returns
returns c = ap Some c.from_string.ensures.characters
    ∙ scalars_end (chars (string_bytes c.loop-value.out)) c.args.values.now c.loop-value.value-index _
    c.loop-value-test.false c.loop-value.invariant
