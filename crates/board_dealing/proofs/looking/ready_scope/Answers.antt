use Rattle.std.proofs.Common.{refl, sym, subst, ◌∙◌, ◌<◌, length}
use Rattle.deploy_histories.specs.Planned.{Planned}
use Rattle.board_dealing.proofs.LookLemmas.{in_plan, kept_then, kept_as, ready_found}
use Rattle.board_dealing.proofs.looking.ready_scope.Goals as goal

pub scopes-init : goal.scopes-init
scopes-init g c = record { sound = c.requires.sound; planned = refl; kept = λ seen k. k }

pub look-requires-clause-within : goal.look-requires-clause-within
look-requires-clause-within g c =
    let k = c.scopes.invariant.kept c.requires.kept.0 c.requires.kept.1 in
    subst (λ (x : Planned). c.in-Some.task < length x.tasks) (sym c.scopes.invariant.planned)
    (in_plan _ _ _ _ _ c.requires.kept.0 k c.in-Some.task c.in-Some.ensures.0)

pub look-requires-clause-kept : goal.look-requires-clause-kept
look-requires-clause-kept g c =
    kept_as _ _ _ _ _ _ _ _ c.scopes.invariant.planned c.scopes.invariant.kept c.requires.kept

pub scopes-preserved : goal.scopes-preserved
scopes-preserved g c = record {
  sound = c.look.ensures.sound;
  planned = c.look.ensures.planned ∙ c.scopes.invariant.planned;
  kept = kept_then _ _ _ _ _ _ _ _ _ _ c.scopes.invariant.planned c.scopes.invariant.kept c.look.ensures.kept;
}

pub returns-in_err-body-clause-kept : goal.returns-in_err-body-clause-kept
returns-in_err-body-clause-kept g c =
    kept_then _ _ _ _ _ _ _ _ _ _ c.scopes.invariant.planned c.scopes.invariant.kept c.look.ensures.kept

pub returns-in-Some-2-clause-kept : goal.returns-in-Some-2-clause-kept
returns-in-Some-2-clause-kept g c =
    kept_then _ _ _ _ _ _ _ _ _ _ c.scopes.invariant.planned c.scopes.invariant.kept c.look.ensures.kept

pub returns-in-Some-2-clause-ready : goal.returns-in-Some-2-clause-ready
returns-in-Some-2-clause-ready g c =
    ready_found (g.S.Standings.planned c.args.standings.now) (g.S.Standings.planned c.scopes.standings)
    c.scopes.invariant.planned (g.S.Standings.known c.look.new.standings) c.args.history.now.count
    c.args.history.now.events (g.S.Standings.noted c.look.new.standings) c.scopes.agenda c.look.new.agenda
    c.in-Some.task c.in-Some-2.body c.in_ok-body.field-0 c.in-Some-2.is c.in_ok-body.ensures.looked c.in-Some.ensures (
      c.requires.kept.0,
      kept_then _ _ _ _ _ _ _ _ _ _ c.scopes.invariant.planned c.scopes.invariant.kept c.look.ensures.kept
          c.requires.kept.0 c.requires.kept.1,
    )
