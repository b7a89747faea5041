use Rattle.std.proofs.Common.{sym, ◌∙◌, refl, subst}
use Rattle.deploy_histories.specs.Planned.{Planned}
use Rattle.deploy_histories.specs.Events.{progress}
use Rattle.board_dealing.specs.Passes.{Fewer}
use Rattle.board_dealing.proofs.Passages.{none_passed, passed_as}
use Rattle.board_dealing.proofs.PassLemmas.{kept_of, first_of_scopes, no_scope_left}
use Rattle.board_dealing.proofs.passing.settle_one.Goals as goal

pub ready_scope-requires-clause-kept : goal.ready_scope-requires-clause-kept
ready_scope-requires-clause-kept g c =
    (c.args.seen.now, c.requires.kept)

pub returns-in_err-task-clause-kept : goal.returns-in_err-task-clause-kept
returns-in_err-task-clause-kept g c =
    c.ready_scope.ensures.kept c.args.seen.now c.requires.kept

pub returns-in_err-task-clause-passed : goal.returns-in_err-task-clause-passed
returns-in_err-task-clause-passed g c =
    none_passed (g.S.Standings.planned c.args.standings.now) c.args.history.now.events

pub pass_and_hear-requires-clause-kept : goal.pass_and_hear-requires-clause-kept
pass_and_hear-requires-clause-kept g c =
    kept_of (g.S.Standings.planned c.args.standings.now) (g.S.Standings.planned c.ready_scope.new.standings)
    (g.S.Standings.known c.ready_scope.new.standings)
    c.args.history.now.count c.args.history.now.events c.ready_scope.new.agenda c.args.seen.now
    c.ready_scope.ensures.planned
    (c.ready_scope.ensures.kept c.args.seen.now c.requires.kept)

pub pass_and_hear-requires-clause-first : goal.pass_and_hear-requires-clause-first
pass_and_hear-requires-clause-first g c =
    first_of_scopes (g.S.Standings.planned c.ready_scope.new.standings) (g.S.Standings.planned c.args.standings.now)
    (progress c.args.history.now.events) (g.S.Standings.known c.ready_scope.new.standings) (g.S.Standings.noted
    c.ready_scope.new.standings) c.ready_scope.new.agenda c.in-Some.task c.in_ok-task.field-0 (sym
    c.ready_scope.ensures.planned)
    c.in-Some.is c.in_ok-task.ensures.ready

pub returns-in_err-pass_and_hear-in-Some-clause-planned : goal.returns-in_err-pass_and_hear-in-Some-clause-planned
returns-in_err-pass_and_hear-in-Some-clause-planned g c =
    c.pass_and_hear.ensures.planned ∙ c.ready_scope.ensures.planned

pub returns-in_err-pass_and_hear-in-Some-clause-passed : goal.returns-in_err-pass_and_hear-in-Some-clause-passed
returns-in_err-pass_and_hear-in-Some-clause-passed g c =
    passed_as (g.S.Standings.planned c.args.standings.now) (g.S.Standings.planned c.ready_scope.new.standings)
    c.args.history.now.events c.pass_and_hear.new.history.events c.ready_scope.ensures.planned
    c.pass_and_hear.ensures.passed

pub returns-in_err-pass_and_hear-in-Some-clause-kept : goal.returns-in_err-pass_and_hear-in-Some-clause-kept
returns-in_err-pass_and_hear-in-Some-clause-kept g c =
    kept_of (g.S.Standings.planned c.ready_scope.new.standings) (g.S.Standings.planned c.args.standings.now)
    (g.S.Standings.known c.pass_and_hear.new.standings)
    c.pass_and_hear.new.history.count c.pass_and_hear.new.history.events c.pass_and_hear.new.agenda
    c.pass_and_hear.new.seen (sym c.ready_scope.ensures.planned) c.pass_and_hear.ensures.kept

pub returns-in_ok-pass_and_hear-in-Some-clause-planned : goal.returns-in_ok-pass_and_hear-in-Some-clause-planned
returns-in_ok-pass_and_hear-in-Some-clause-planned g c =
    c.pass_and_hear.ensures.planned ∙ c.ready_scope.ensures.planned

pub returns-in_ok-pass_and_hear-in-Some-clause-passed : goal.returns-in_ok-pass_and_hear-in-Some-clause-passed
returns-in_ok-pass_and_hear-in-Some-clause-passed g c =
    passed_as (g.S.Standings.planned c.args.standings.now) (g.S.Standings.planned c.ready_scope.new.standings)
    c.args.history.now.events c.pass_and_hear.new.history.events c.ready_scope.ensures.planned
    c.pass_and_hear.ensures.passed

pub returns-in_ok-pass_and_hear-in-Some-clause-kept : goal.returns-in_ok-pass_and_hear-in-Some-clause-kept
returns-in_ok-pass_and_hear-in-Some-clause-kept g c =
    kept_of (g.S.Standings.planned c.ready_scope.new.standings) (g.S.Standings.planned c.args.standings.now)
    (g.S.Standings.known c.pass_and_hear.new.standings)
    c.pass_and_hear.new.history.count c.pass_and_hear.new.history.events c.pass_and_hear.new.agenda
    c.pass_and_hear.new.seen (sym c.ready_scope.ensures.planned) c.pass_and_hear.ensures.kept

pub returns-in_ok-pass_and_hear-in-Some-clause-settled : goal.returns-in_ok-pass_and_hear-in-Some-clause-settled
returns-in_ok-pass_and_hear-in-Some-clause-settled g c = (
  subst (λ (x : Planned). Fewer x c.args.history.now.events c.pass_and_hear.new.history.events)
      c.ready_scope.ensures.planned c.in_ok-pass_and_hear-in-Some.ensures.fewer,
  c.in_ok-pass_and_hear-in-Some.ensures.caught,
)

pub returns-in-None-clause-kept : goal.returns-in-None-clause-kept
returns-in-None-clause-kept g c =
    c.ready_scope.ensures.kept c.args.seen.now c.requires.kept

pub returns-in-None-clause-passed : goal.returns-in-None-clause-passed
returns-in-None-clause-passed g c =
    none_passed (g.S.Standings.planned c.args.standings.now) c.args.history.now.events

pub returns-in-None-clause-settled : goal.returns-in-None-clause-settled
returns-in-None-clause-settled g c = (
  no_scope_left (g.S.Standings.planned c.args.standings.now) (progress c.args.history.now.events) (g.S.Standings.known
      c.ready_scope.new.standings) (g.S.Standings.noted c.ready_scope.new.standings) c.ready_scope.new.agenda
      c.in_ok-task.field-0
      c.in-None.is c.in_ok-task.ensures.ready,
  (refl, refl),
)
