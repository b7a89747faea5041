use Rattle.std.proofs.Common.{refl, sym, ◌∙◌}
use Rattle.board_dealing.proofs.PassLemmas.{kept_of, settled_true}
use Rattle.board_dealing.proofs.Passages.{none_passed, passed_then, passed_as}
use Rattle.board_dealing.proofs.passing.settle.Goals as goal

pub returns-in_err-catch_up-clause-passed : goal.returns-in_err-catch_up-clause-passed
returns-in_err-catch_up-clause-passed g c =
    none_passed (g.S.Standings.planned c.args.standings.now) c.args.history.now.events

pub scopes-init : goal.scopes-init
scopes-init g c = record {
  sound = c.requires.sound;
  planned = refl;
  kept = c.catch_up.ensures.kept;
  unrefused = c.requires.unrefused;
  passed = none_passed (g.S.Standings.planned c.args.standings.now) c.args.history.now.events;
  caught = c.in_ok-catch_up.ensures.caught;
}

pub settle_one-requires-clause-kept : goal.settle_one-requires-clause-kept
settle_one-requires-clause-kept g c =
    kept_of (g.S.Standings.planned c.args.standings.now) (g.S.Standings.planned c.scopes.standings)
    (g.S.Standings.known c.scopes.standings) c.scopes.history.count c.scopes.history.events c.scopes.agenda
    c.scopes.seen c.scopes.invariant.planned c.scopes.invariant.kept

pub returns-in_err-settle_one-clause-planned : goal.returns-in_err-settle_one-clause-planned
returns-in_err-settle_one-clause-planned g c = c.settle_one.ensures.planned ∙ c.scopes.invariant.planned

pub returns-in_err-settle_one-clause-kept : goal.returns-in_err-settle_one-clause-kept
returns-in_err-settle_one-clause-kept g c =
    kept_of (g.S.Standings.planned c.scopes.standings) (g.S.Standings.planned c.args.standings.now)
    (g.S.Standings.known c.settle_one.new.standings) c.settle_one.new.history.count c.settle_one.new.history.events
    c.settle_one.new.agenda c.settle_one.new.seen (sym c.scopes.invariant.planned) c.settle_one.ensures.kept

pub returns-in_err-settle_one-clause-passed : goal.returns-in_err-settle_one-clause-passed
returns-in_err-settle_one-clause-passed g c =
    passed_then (g.S.Standings.planned c.args.standings.now) c.args.history.now.events c.scopes.history.events
    c.settle_one.new.history.events c.scopes.invariant.passed
    (passed_as (g.S.Standings.planned c.args.standings.now) (g.S.Standings.planned c.scopes.standings)
    c.scopes.history.events c.settle_one.new.history.events c.scopes.invariant.planned c.settle_one.ensures.passed)

pub scopes-preserved : goal.scopes-preserved
scopes-preserved g c = record {
  sound = c.settle_one.ensures.sound;
  planned = c.settle_one.ensures.planned ∙ c.scopes.invariant.planned;
  kept = kept_of (g.S.Standings.planned c.scopes.standings) (g.S.Standings.planned c.args.standings.now)
      (g.S.Standings.known c.settle_one.new.standings) c.settle_one.new.history.count c.settle_one.new.history.events
      c.settle_one.new.agenda c.settle_one.new.seen (sym c.scopes.invariant.planned) c.settle_one.ensures.kept;
  unrefused = c.settle_one.ensures.refusal ∙ c.scopes.invariant.unrefused;
  passed = passed_then (g.S.Standings.planned c.args.standings.now) c.args.history.now.events c.scopes.history.events
      c.settle_one.new.history.events c.scopes.invariant.passed
      (passed_as (g.S.Standings.planned c.args.standings.now) (g.S.Standings.planned c.scopes.standings)
      c.scopes.history.events c.settle_one.new.history.events c.scopes.invariant.planned c.settle_one.ensures.passed);
  caught = (settled_true (g.S.Standings.planned c.scopes.standings) c.scopes.history.events
      c.settle_one.new.history.events c.settle_one.new.agenda c.scopes.seen c.settle_one.new.seen
      c.in_ok-settle_one.field-0 c.if-branch.true c.in_ok-settle_one.ensures.settled).1;
}
