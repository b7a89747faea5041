use Rattle.tag_holders.specs.Holders.{classes_in}
use Rattle.tag_holders.proofs.HolderLemmas.{all_kept}
use Rattle.tag_holders.proofs.holders.holders_of.Goals as goal

pub returns : goal.returns
returns c =
    all_kept (classes_in c.args.classes.now) c.loop-number.holders c.loop-number.number c.args.tags.now
    c.loop-number-test.false c.loop-number.invariant
