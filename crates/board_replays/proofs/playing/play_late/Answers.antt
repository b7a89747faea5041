use Rattle.board_replays.specs.Replays.{noted_of}
use Rattle.board_replays.proofs.PlayLemmas.{begun_so, not_begun, late_on, late_not, held_as}
use Rattle.board_replays.proofs.playing.play_late.Goals as goal

pub returns-in_ok-hold-in-Some-clause-played : goal.returns-in_ok-hold-in-Some-clause-played
returns-in_ok-hold-in-Some-clause-played g c =
    let b = begun_so (g.S.Standings.planned c.args.standings.now) c.args.history.now.events (noted_of c.args.noted)
    c.begin_for.new.history.events c.in_ok-task.field-0 c.in-Some.task c.in-Some.answer c.in-Some.is
    c.in_ok-task.ensures.begun in
    λ ns a. late_on (g.S.Standings.planned c.args.standings.now) ns (noted_of c.args.noted) c.args.late.now.items
    c.args.history.now.events a c.begin_for.new.history.events c.hold.new.late.items b.1
    (held_as (noted_of c.args.noted) c.in-Some.task c.in-Some.answer c.args.late.now.items c.hold.new.late.items b.0
    c.in_ok-hold-in-Some.ensures)

pub returns-in-None-clause-played : goal.returns-in-None-clause-played
returns-in-None-clause-played g c =
    λ ns a. late_not (g.S.Standings.planned c.args.standings.now) ns (noted_of c.args.noted) c.args.late.now.items
    c.args.history.now.events a
    (not_begun (g.S.Standings.planned c.args.standings.now) c.args.history.now.events (noted_of c.args.noted)
    c.begin_for.new.history.events c.in_ok-task.field-0 c.in-None.is c.in_ok-task.ensures.begun).1
