use Rattle.std.proofs.Common.{ap, sym, ◌∙◌, Some}
use Rattle.given_plans.proofs.StandLemmas.{kind_is, task_there}
use Rattle.given_plans.proofs.standing.GivenPlanStandings.kind.Goals as goal

pub kind_at-requires : goal.kind_at-requires
kind_at-requires c = (task_there c.args.self.now c.args.task c.requires.within).within

pub returns : goal.returns
returns c =
    let t = task_there c.args.self.now c.args.task c.requires.within in
    kind_is c.args.self.now c.args.task t.of t.is ∙ ap Some (sym (c.kind_at.ensures t.of t.is))
