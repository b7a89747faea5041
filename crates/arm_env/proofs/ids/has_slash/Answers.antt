use Rattle.std.proofs.Common.{chars}
use Rattle.std.proofs.lemmas.Iterator.{YieldsList-from_chars}
use Rattle.std.proofs.lemmas.Iterator.Consumers.{YieldsList-turn, YieldsList-end}
use Rattle.arm_env.proofs.IdLemmas.{slash_there, slash_further, slash_nowhere}
use Rattle.arm_env.proofs.ids.has_slash.Goals as goal

pub returns-then-c-eq47 : goal.returns-then-c-eq47
returns-then-c-eq47 c =
    let t = YieldsList-turn (YieldsList-from_chars c.args.text.now c.utf8.text cc) c.loop-c.yielded
    _ c.loop-c.yielded_by _ _ c.in-Some.c c.in-Some.is c.next.ensures.steps in
    slash_there (chars c.args.text.now) c.loop-c.yielded c.in-Some.c t c.if-c-eq47.true
    c.loop-c.invariant

pub loop-c-preserved : goal.loop-c-preserved
loop-c-preserved c =
    let t = YieldsList-turn (YieldsList-from_chars c.args.text.now c.utf8.text cc) c.loop-c.yielded
    _ c.loop-c.yielded_by _ _ c.in-Some.c c.in-Some.is c.next.ensures.steps in
    slash_further (chars c.args.text.now) c.loop-c.yielded c.in-Some.c t c.if-c-eq47.false
    c.loop-c.invariant

pub returns : goal.returns
returns c =
    let t = YieldsList-end (YieldsList-from_chars c.args.text.now c.utf8.text cc) c.loop-c.yielded _
    c.loop-c.yielded_by _ _ c.in-None.is c.next.ensures.steps in
    slash_nowhere (chars c.args.text.now) c.loop-c.yielded t.1 c.loop-c.invariant
