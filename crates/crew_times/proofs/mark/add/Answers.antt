use Rattle.std.proofs.Common.{ap, ◌∙◌}
use Rattle.crew_times.specs.Marks.{steps_of}
use Rattle.crew_times.proofs.RowLemmas.{steps_more}
use Rattle.crew_times.proofs.mark.add.Goals as goal

pub returns-clause-steps : goal.returns-clause-steps
returns-clause-steps c = ap steps_of c.push_reserved.ensures.items ∙ steps_more c.args.marks.now.items c.args.mark
