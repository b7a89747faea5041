use Rattle.given_plans.proofs.StandLemmas.{aim_so}
use Rattle.given_plans.proofs.standing.GivenPlanStandings.aim.Goals as goal

pub returns : goal.returns
returns c =
    aim_so c.args.self.now c.args.task c.requires.act.0 c.requires.act.1.0 c.requires.act.1.1 c.put_aim.result
    c.put_aim.ensures
