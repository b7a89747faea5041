use Rattle.arm_eval.proofs.CellLemmas.{alone_named}
use Rattle.arm_eval.proofs.titles.AloneEntries.named.Goals as goal

pub returns : goal.returns
returns g c = alone_named (g.K.Entries.known c.args.self.now.entries.now) c.args._text.now
