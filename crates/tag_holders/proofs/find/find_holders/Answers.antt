use Rattle.tag_holders.specs.Holders.{classes_in}
use Rattle.tag_holders.proofs.HolderLemmas.{all_asked}
use Rattle.tag_holders.proofs.find.find_holders.Goals as goal

pub returns : goal.returns
returns c = λ tags kept.
    all_asked (classes_in c.args.classes.now) c.args.holders.now tags c.loop-ask.found c.loop-ask.ask-index
    c.args.asks.now kept c.loop-ask-test.false c.loop-ask.invariant
