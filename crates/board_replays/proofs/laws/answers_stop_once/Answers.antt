use Rattle.board_replays.proofs.FrontLemmas.{front_follows, stops_once, follows_or_stops}
use Rattle.board_replays.proofs.laws.answers_stop_once.Goals as goal

pub returns-clause-first : goal.returns-clause-first
returns-clause-first c = front_follows

pub returns-clause-once : goal.returns-clause-once
returns-clause-once c = stops_once

pub returns-clause-never : goal.returns-clause-never
returns-clause-never c = follows_or_stops
