use Rattle.std.proofs.Common.{chars}
use Rattle.std.proofs.lemmas.Iterator.{YieldsList-from_chars}
use Rattle.std.proofs.lemmas.Iterator.Consumers.{YieldsList-end}
use Rattle.name_tags.proofs.TextLemmas.{exact_more, exact_all}
use Rattle.name_tags.proofs.tag.push_exact.Goals as goal

pub loop-c-preserved : goal.loop-c-preserved
loop-c-preserved c =
    exact_more c.args.tag.now.items c.loop-c.tag.items c.push.new.self.items c.loop-c.yielded c.in-Some.c
    c.loop-c.invariant c.in_ok-push.ensures.items

pub returns : goal.returns
returns c =
    let t = YieldsList-end (YieldsList-from_chars c.args.text.now c.utf8.text cc) c.loop-c.yielded _
    c.loop-c.yielded_by _ _ c.in-None.is c.next.ensures.steps in
    exact_all c.args.tag.now.items c.loop-c.tag.items c.loop-c.yielded (chars c.args.text.now) t.0 c.loop-c.invariant
