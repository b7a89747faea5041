use Rattle.arm_eval.proofs.CellLemmas.{alone_told}
use Rattle.arm_eval.proofs.titles.title_value.Goals as goal

pub returns : goal.returns
returns g c = rw (alone_told (g.K.Entries.known c.args.entries.now) _) c.said_value.ensures
