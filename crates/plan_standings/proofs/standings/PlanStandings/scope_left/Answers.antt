use Rattle.plan_standings.proofs.LeftLemmas.{are_within, left_there, left_seen}
use Rattle.plan_standings.proofs.LeftLemmas.{scope_seen, kept_by, sound_after, leaves_by}
use Rattle.plan_standings.proofs.standings.PlanStandings.scope_left.Goals as goal

pub keep_noted-requires : goal.keep_noted-requires
keep_noted-requires c =
    let s = c.args.self.now in
    are_within s.plan.now s.held.now c.requires.sound.is_planned c.requires.sound.has_histories s.later s.later
    c.requires.sound.fit c.args.task s.noted c.requires.noted

pub returns-clause-sound : goal.returns-clause-sound
returns-clause-sound c =
    let s = c.args.self.now in
    let leaves = leaves_by s.plan.now s.held.now c.requires.sound.is_planned c.requires.sound.has_histories s.later
    c.keep_noted.new.later c.requires.sound.fit c.args.task s.noted c.requires.noted c.keep_noted.ensures.leaves in
    sound_after s c.requires.sound c.keep_noted.new.later c.keep_noted.new.noted
    (leaves.fit c.requires.sound.fit) (leaves.told c.requires.sound.told)

pub returns-clause-grows : goal.returns-clause-grows
returns-clause-grows c =
    let s = c.args.self.now in
    (leaves_by s.plan.now s.held.now c.requires.sound.is_planned c.requires.sound.has_histories s.later
    c.keep_noted.new.later c.requires.sound.fit c.args.task s.noted c.requires.noted c.keep_noted.ensures.leaves).grows

pub returns-clause-seen : goal.returns-clause-seen
returns-clause-seen c =
    let s = c.args.self.now in
    left_seen s.plan.now s.held.now c.requires.sound.is_planned c.requires.sound.has_histories s.later
    c.keep_noted.new.later c.requires.sound.fit c.args.task s.noted c.requires.noted
    (leaves_by s.plan.now s.held.now c.requires.sound.is_planned c.requires.sound.has_histories s.later
    c.keep_noted.new.later c.requires.sound.fit c.args.task s.noted c.requires.noted c.keep_noted.ensures.leaves)
    c.leaves_once.ensures _ c.requires.done c.requires.seen

pub returns-clause-left : goal.returns-clause-left
returns-clause-left c =
    let s = c.args.self.now in
    scope_seen s.plan.now s.held.now c.requires.sound.is_planned c.requires.sound.has_histories s.later
    c.keep_noted.new.later c.requires.sound.fit c.args.task s.noted c.requires.noted
    (left_there s.plan.now s.held.now c.requires.sound.is_planned c.requires.sound.has_histories s.later
    c.keep_noted.new.later c.requires.sound.fit c.args.task s.noted c.requires.noted
    c.requires.sound.numbers.of_scopes.of_table)
    (kept_by s.plan.now s.held.now c.requires.sound.is_planned c.requires.sound.has_histories s.later
    c.keep_noted.new.later c.requires.sound.fit c.args.task s.noted c.requires.noted c.keep_noted.ensures.kept)
