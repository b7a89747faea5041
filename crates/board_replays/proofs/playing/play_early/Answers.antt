use Rattle.board_dealing.proofs.PassLemmas.{goes_of}
use Rattle.board_replays.specs.Replays.{noted_of}
use Rattle.board_replays.proofs.PlayLemmas.{begun_so, not_begun, early_on, early_not, may_end_as, begun_kept, ended_as}
use Rattle.board_replays.proofs.playing.play_early.Goals as goal

pub end-requires-clause-may : goal.end-requires-clause-may
end-requires-clause-may g c =
    may_end_as (g.S.Standings.planned c.args.standings.now) (g.S.Standings.planned c.begin_for.new.standings)
    c.args.history.now.events (noted_of c.args.noted) c.begin_for.new.history.events c.in-Some.task c.in-Some.answer
    c.begin_for.ensures.planned
    (begun_so (g.S.Standings.planned c.args.standings.now) c.args.history.now.events (noted_of c.args.noted)
    c.begin_for.new.history.events c.in_ok-task.field-0 c.in-Some.task c.in-Some.answer c.in-Some.is
    c.in_ok-task.ensures.begun)

pub end-requires-clause-kept : goal.end-requires-clause-kept
end-requires-clause-kept g c =
    begun_kept (g.S.Standings.planned c.args.standings.now) (g.S.Standings.planned c.begin_for.new.standings)
    (g.S.Standings.known c.args.standings.now) (g.S.Standings.known c.begin_for.new.standings) c.args.history.now
    c.begin_for.new.history c.args.agenda.now c.args.agenda.now c.begin_for.ensures.planned c.begin_for.ensures.kept
    c.requires.kept

pub returns-in_err-end-in-Some-clause-kept : goal.returns-in_err-end-in-Some-clause-kept
returns-in_err-end-in-Some-clause-kept g c =
    λ seen k. goes_of (g.S.Standings.planned c.args.standings.now) (g.S.Standings.planned c.begin_for.new.standings)
    (g.S.Standings.known c.begin_for.new.standings) (g.S.Standings.known c.begin_for.new.standings)
    c.begin_for.new.history c.end.new.history c.args.agenda.now c.end.new.agenda seen c.begin_for.ensures.planned
    c.end.ensures.kept (c.begin_for.ensures.kept seen k)

pub returns-in_ok-end-in-Some-clause-kept : goal.returns-in_ok-end-in-Some-clause-kept
returns-in_ok-end-in-Some-clause-kept g c =
    λ seen k. goes_of (g.S.Standings.planned c.args.standings.now) (g.S.Standings.planned c.begin_for.new.standings)
    (g.S.Standings.known c.begin_for.new.standings) (g.S.Standings.known c.begin_for.new.standings)
    c.begin_for.new.history c.end.new.history c.args.agenda.now c.end.new.agenda seen c.begin_for.ensures.planned
    c.end.ensures.kept (c.begin_for.ensures.kept seen k)

pub returns-in_ok-end-in-Some-clause-played : goal.returns-in_ok-end-in-Some-clause-played
returns-in_ok-end-in-Some-clause-played g c =
    let b = begun_so (g.S.Standings.planned c.args.standings.now) c.args.history.now.events (noted_of c.args.noted)
    c.begin_for.new.history.events c.in_ok-task.field-0 c.in-Some.task c.in-Some.answer c.in-Some.is
    c.in_ok-task.ensures.begun in
    λ ns before a s. early_on (g.S.Standings.planned c.args.standings.now) ns (noted_of c.args.noted) before
    c.args.history.now.events a s c.begin_for.new.history.events c.end.new.history.events c.args.late.now.items
    c.end.new.late.items c.requires.none b.1.is b.1.may_end
    (ended_as (noted_of c.args.noted) c.in-Some.task c.in-Some.answer c.args.late.now.items c.end.new.late.items
    c.begin_for.new.history.events c.end.new.history.events b.0 c.in_ok-end-in-Some.ensures.ended)

pub returns-in-None-clause-kept : goal.returns-in-None-clause-kept
returns-in-None-clause-kept g c = λ seen k. c.begin_for.ensures.kept seen k

pub returns-in-None-clause-played : goal.returns-in-None-clause-played
returns-in-None-clause-played g c =
    λ ns before a s. early_not (g.S.Standings.planned c.args.standings.now) ns (noted_of c.args.noted) before
    c.args.history.now.events a s
    (not_begun (g.S.Standings.planned c.args.standings.now) c.args.history.now.events (noted_of c.args.noted)
    c.begin_for.new.history.events c.in_ok-task.field-0 c.in-None.is c.in_ok-task.ensures.begun).1
