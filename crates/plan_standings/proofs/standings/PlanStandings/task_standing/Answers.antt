use Rattle.plan_standings.proofs.LeftLemmas.{at_point, number_within, sound_after}
use Rattle.plan_standings.proofs.standings.PlanStandings.task_standing.Goals as goal

pub task_standing-requires-clause-point : goal.task_standing-requires-clause-point
task_standing-requires-clause-point c =
    at_point c.args.self.now c.args.history.now.events c.requires.sound c.requires.legal c.requires.seen
    c.requires.scopes

pub task_standing-requires-clause-within : goal.task_standing-requires-clause-within
task_standing-requires-clause-within c = number_within c.args.self.now c.args.task c.requires.within

pub returns-clause-sound : goal.returns-clause-sound
returns-clause-sound c =
    sound_after c.args.self.now c.requires.sound c.task_standing.new.later c.task_standing.new.noted
    c.task_standing.ensures.more.fit c.task_standing.ensures.more.told

pub returns-clause-seen : goal.returns-clause-seen
returns-clause-seen c = c.task_standing.ensures.more.kept.seen

pub returns-clause-grows : goal.returns-clause-grows
returns-clause-grows c = c.task_standing.ensures.more.grows
