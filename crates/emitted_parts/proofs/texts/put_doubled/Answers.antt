use Rattle.std.proofs.Common.{length}
use Rattle.std.proofs.lemmas.Iterator.{YieldsList-from_chars}
use Rattle.std.proofs.lemmas.Iterator.Consumers.{YieldsList-turn, YieldsList-end}
use Rattle.std.proofs.lemmas.List.{length_push}
use Rattle.std.specs.Str.{chars}
use Rattle.arm_expr.specs.View.{text_of}
use Rattle.emitted_parts.proofs.TextLemmas.{twice_turn, twice_end}
use Rattle.emitted_parts.proofs.texts.put_doubled.Goals as goal

pub loop-c-preserved : goal.loop-c-preserved
loop-c-preserved c =
    let t = YieldsList-turn (YieldsList-from_chars c.args.characters.now c.utf8.characters cc) c.loop-c.yielded _
    c.loop-c.yielded_by _ _ c.in-Some.c c.in-Some.is c.next.ensures.steps in
    twice_turn (text_of c.loop-c.out) (text_of c.put_twice.new.out) _ (chars c.args.characters.now)
    (length c.loop-c.yielded) _ c.in-Some.c t (length_push c.loop-c.yielded c.in-Some.c)
    c.in_ok-put_twice.ensures c.loop-c.invariant

pub returns : goal.returns
returns c =
    let t = YieldsList-end (YieldsList-from_chars c.args.characters.now c.utf8.characters cc) c.loop-c.yielded _
    c.loop-c.yielded_by _ _ c.in-None.is c.next.ensures.steps in
    twice_end (text_of c.loop-c.out) _ (chars c.args.characters.now) (length c.loop-c.yielded) t.1 c.loop-c.invariant
