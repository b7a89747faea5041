use Rattle.std.proofs.Common.{length, arith}
use Rattle.std.proofs.lemmas.Iterator.{YieldsList-from_chars}
use Rattle.std.proofs.lemmas.Iterator.Consumers.{YieldsList-turn, YieldsList-end}
use Rattle.std.proofs.lemmas.List.{length_push}
use Rattle.std.specs.Str.{chars}
use Rattle.arm_expr.proofs.PrintLemmas.{counts_one, counts_turn, counts_end}
use Rattle.arm_expr.proofs.room.left_after_doubled.Goals as goal

pub returns-in-None-checked_sub : goal.returns-in-None-checked_sub
returns-in-None-checked_sub c =
    let t = YieldsList-turn (YieldsList-from_chars c.args.text.now c.utf8.text cc) c.loop-c.yielded _
    c.loop-c.yielded_by _ _ c.in-Some.c c.in-Some.is c.next.ensures.steps in
    let one = counts_one (chars c.args.text.now) (length c.loop-c.yielded) c.in-Some.c t in
    omega (arith, one, c.loop-c.invariant, c.doubled_length.ensures, c.in-None-checked_sub.ensures)

pub loop-c-preserved : goal.loop-c-preserved
loop-c-preserved c =
    let t = YieldsList-turn (YieldsList-from_chars c.args.text.now c.utf8.text cc) c.loop-c.yielded _
    c.loop-c.yielded_by _ _ c.in-Some.c c.in-Some.is c.next.ensures.steps in
    counts_turn (chars c.args.text.now) (length c.loop-c.yielded) _ c.in-Some.c c.loop-c.left
    c.in-Some-checked_sub.rest c.args.room _ t (length_push c.loop-c.yielded c.in-Some.c)
    (omega (arith, c.doubled_length.ensures, c.in-Some-checked_sub.ensures))
    (omega (arith, c.doubled_length.ensures, c.in-Some-checked_sub.ensures)) c.loop-c.invariant

pub returns : goal.returns
returns c =
    let t = YieldsList-end (YieldsList-from_chars c.args.text.now c.utf8.text cc) c.loop-c.yielded _
    c.loop-c.yielded_by _ _ c.in-None.is c.next.ensures.steps in
    counts_end (chars c.args.text.now) (length c.loop-c.yielded) c.loop-c.left c.args.room t.1 c.loop-c.invariant
