use Rattle.std.proofs.Common.{Some, map, string_bytes, ap, ◌∙◌}
use Rattle.std.specs.Str.{chars}
use Rattle.std.proofs.lemmas.Str.{chars-nil}
use Rattle.arm_value.specs.View.{json}
use Rattle.function_prints.proofs.FormatLemmas.{filled_more, filled_fails, filled_ends, filled_begins}
use Rattle.function_prints.proofs.filling.filled.Goals as goal

pub loop-i-init : goal.loop-i-init
loop-i-init c = filled_begins (map json c.args.args.now) (chars (string_bytes c.new-out.result)) c.args.characters.now
    (ap chars c.new-out.ensures.bytes ∙ chars-nil)

pub loop-i-preserved : goal.loop-i-preserved
loop-i-preserved c =
    filled_more (map json c.args.args.now) (chars (string_bytes c.loop-i.out))
    (chars (string_bytes c.fill_here.new.out)) c.args.characters.now c.loop-i.i c.loop-i.taken c.in-Some.next
    c.in_ok-next.field-0 _ c.loop-i-test.true c.in-Some.is c.in_ok-next.ensures c.loop-i.invariant

pub returns-in-None : goal.returns-in-None
returns-in-None c =
    filled_fails (map json c.args.args.now) (chars (string_bytes c.loop-i.out))
    (chars (string_bytes c.fill_here.new.out)) c.args.characters.now c.loop-i.i c.loop-i.taken
    c.in_ok-next.field-0 _ c.in-None.is c.in_ok-next.ensures c.loop-i.invariant

pub returns : goal.returns
returns c = ap Some c.from_string.ensures.characters
    ∙ filled_ends (map json c.args.args.now) (chars (string_bytes c.loop-i.out)) c.args.characters.now c.loop-i.i
    c.loop-i.taken _ c.loop-i-test.false c.loop-i.invariant
