use Rattle.std.proofs.Common.{sym}
use Rattle.board_dealing.proofs.Passages.{passed_first}
use Rattle.board_dealing.proofs.PassLemmas.{kept_of, ok_of}
use Rattle.board_dealing.proofs.Pausing.{none_before}
use Rattle.board_dealing.proofs.passing.pass_and_hear.Goals as goal

pub pass-requires-clause-kept : goal.pass-requires-clause-kept
pass-requires-clause-kept g c =
    (c.args.seen.now, c.requires.kept)

pub catch_up-requires : goal.catch_up-requires
catch_up-requires g c =
    kept_of (g.S.Standings.planned c.args.standings.now) (g.S.Standings.planned c.pass.new.standings)
    (g.S.Standings.known c.pass.new.standings)
    c.pass.new.history.count c.pass.new.history.events c.pass.new.agenda c.args.seen.now c.pass.ensures.planned
    (c.pass.ensures.kept c.args.seen.now c.requires.kept)

pub returns-in_err-pass-clause-kept : goal.returns-in_err-pass-clause-kept
returns-in_err-pass-clause-kept g c =
    c.pass.ensures.kept c.args.seen.now c.requires.kept

pub returns-in_err-pass-clause-passed : goal.returns-in_err-pass-clause-passed
returns-in_err-pass-clause-passed g c =
    passed_first (g.S.Standings.planned c.args.standings.now) c.args.task c.args.history.now.events
    c.pass.new.history.events c.pass.result
    (none_before (g.S.Standings.planned c.args.standings.now) (g.S.Standings.known c.args.standings.now)
    c.args.history.now.count c.args.history.now.events c.args.agenda.now c.args.seen.now c.requires.kept
    c.requires.caught (g.S.Standings.noted c.args.standings.now) c.args.task c.requires.first) c.pass.ensures.passed

pub returns-clause-kept : goal.returns-clause-kept
returns-clause-kept g c =
    kept_of (g.S.Standings.planned c.pass.new.standings) (g.S.Standings.planned c.args.standings.now)
    (g.S.Standings.known c.pass.new.standings)
    c.pass.new.history.count c.pass.new.history.events c.catch_up.new.agenda c.catch_up.new.seen (sym
    c.pass.ensures.planned)
    c.catch_up.ensures.kept

pub returns-clause-passed : goal.returns-clause-passed
returns-clause-passed g c =
    passed_first (g.S.Standings.planned c.args.standings.now) c.args.task c.args.history.now.events
    c.pass.new.history.events c.pass.result
    (none_before (g.S.Standings.planned c.args.standings.now) (g.S.Standings.known c.args.standings.now)
    c.args.history.now.count c.args.history.now.events c.args.agenda.now c.args.seen.now c.requires.kept
    c.requires.caught (g.S.Standings.noted c.args.standings.now) c.args.task c.requires.first) c.pass.ensures.passed

pub returns-clause-fewer : goal.returns-clause-fewer
returns-clause-fewer g c =
    ok_of c.catch_up.result c.in_ok-pass.ensures.fewer
