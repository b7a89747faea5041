use Rattle.std.proofs.Common.{◌≡◌, false, length, ◌∙◌, sym}
use Rattle.std.specs.Prelude.{◌==◌}
use Rattle.std.specs.Str.{chars}
use Rattle.std.proofs.lemmas.Iterator.{YieldsList-from_chars}
use Rattle.std.proofs.lemmas.Iterator.Consumers.{YieldsList-turn, YieldsList-end}
use Rattle.function_numbers.proofs.TextLemmas.{is_empty_chars, no_numeral, read_more, read_fails, read_ends}
use Rattle.function_numbers.proofs.numeral.numeral.Goals as goal

pub returns-then-is_empty : goal.returns-then-is_empty
returns-then-is_empty c = no_numeral (chars c.args.text.now) (sym (is_empty_chars c.args.text.now c.utf8.text)
    ∙ (sym c.is_empty.ensures ∙ c.if-is_empty.true))

pub loop-c-preserved : goal.loop-c-preserved
loop-c-preserved c =
    let t = YieldsList-turn (YieldsList-from_chars c.args.text.now c.utf8.text cc) c.loop-c.yielded _
    c.loop-c.yielded_by _ _ c.in-Some.c c.in-Some.is c.next.ensures.steps in
    read_more c.loop-c.number c.in-Some-with_digit.more c.in-Some.c (chars c.args.text.now) c.loop-c.yielded _ t
    c.in-Some-with_digit.ensures c.loop-c.invariant

pub returns-in-None-with_digit : goal.returns-in-None-with_digit
returns-in-None-with_digit c =
    let t = YieldsList-turn (YieldsList-from_chars c.args.text.now c.utf8.text cc) c.loop-c.yielded _
    c.loop-c.yielded_by _ _ c.in-Some.c c.in-Some.is c.next.ensures.steps in
    let some : (length (chars c.args.text.now) == 0) ≡ false = sym (is_empty_chars c.args.text.now c.utf8.text)
    ∙ (sym c.is_empty.ensures ∙ c.if-is_empty.false) in
    read_fails c.loop-c.number c.in-Some.c (chars c.args.text.now) c.loop-c.yielded some t
    c.in-None-with_digit.ensures c.loop-c.invariant.0

pub returns : goal.returns
returns c =
    let t = YieldsList-end (YieldsList-from_chars c.args.text.now c.utf8.text cc) c.loop-c.yielded _
    c.loop-c.yielded_by _ _ c.in-None.is c.next.ensures.steps in
    let some : (length (chars c.args.text.now) == 0) ≡ false = sym (is_empty_chars c.args.text.now c.utf8.text)
    ∙ (sym c.is_empty.ensures ∙ c.if-is_empty.false) in
    read_ends c.loop-c.number (chars c.args.text.now) c.loop-c.yielded some t.1 c.loop-c.invariant
