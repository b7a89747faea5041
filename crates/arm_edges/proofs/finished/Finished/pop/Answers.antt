use Rattle.std.proofs.Common.{rules}
use Rattle.arm_edges.specs.declared.finished.Kept.TheViews.{the_lemmas}
use Rattle.arm_edges.proofs.Places.{up_to-out}
use Rattle.arm_edges.proofs.finished.Finished.pop.Goals as goal

pub returns : goal.returns
returns c = search (rules, the_lemmas, up_to-out)
