use Rattle.plan_openers.proofs.OpenerLemmas.{first_frame}
use Rattle.plan_openers.proofs.opener.opener_of.Goals as goal

pub returns-in-Some-clause-opened : goal.returns-in-Some-clause-opened
returns-in-Some-clause-opened c =
    first_frame c.args.table.now c.args.frame c.index-frame.result.now c.in-Some.instance.now c.as_slice.result.now
    c.requires.table c.requires.there c.index-frame.ensures c.as_slice.ensures.value c.in-Some.ensures.value
