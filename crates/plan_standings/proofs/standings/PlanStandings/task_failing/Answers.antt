use Rattle.plan_standings.proofs.LeftLemmas.{at_point, number_within, sound_after}
use Rattle.plan_standings.proofs.standings.PlanStandings.task_failing.Goals as goal

pub task_failing-requires-clause-point : goal.task_failing-requires-clause-point
task_failing-requires-clause-point c =
    at_point c.args.self.now c.args.history.now.events c.requires.sound c.requires.legal c.requires.seen
    c.requires.scopes

pub task_failing-requires-clause-within : goal.task_failing-requires-clause-within
task_failing-requires-clause-within c = number_within c.args.self.now c.args.task c.requires.within

pub returns-clause-sound : goal.returns-clause-sound
returns-clause-sound c =
    sound_after c.args.self.now c.requires.sound c.task_failing.new.later c.args.self.now.noted
    c.task_failing.ensures.more.fit c.task_failing.ensures.more.told

pub returns-clause-seen : goal.returns-clause-seen
returns-clause-seen c = c.task_failing.ensures.more.kept.seen

pub returns-clause-grows : goal.returns-clause-grows
returns-clause-grows c = c.task_failing.ensures.more.grows

pub task_failing-requires-clause-over : goal.task_failing-requires-clause-over
task_failing-requires-clause-over c = record { unrefused = c.requires.unrefused; nothing_may = c.requires.over }
