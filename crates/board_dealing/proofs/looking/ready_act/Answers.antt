use Rattle.std.proofs.Common.{refl, sym, subst, ◌∙◌, ◌<◌, length}
use Rattle.deploy_histories.specs.Planned.{Planned}
use Rattle.deploy_histories.specs.Events.{progress}
use Rattle.board_dealing.proofs.LookLemmas.{in_plan, kept_then, kept_as, no_scopes_looked}
use Rattle.board_dealing.proofs.looking.ready_act.Goals as goal

pub acts-init : goal.acts-init
acts-init g c = record { sound = c.requires.sound; planned = refl; kept = λ seen k. k; none = λ n. n }

pub look-requires-clause-within : goal.look-requires-clause-within
look-requires-clause-within g c =
    let k = c.acts.invariant.kept c.requires.kept.0 c.requires.kept.1 in
    subst (λ (x : Planned). c.in-Some.task < length x.tasks) (sym c.acts.invariant.planned)
    (in_plan _ _ _ _ _ c.requires.kept.0 k c.in-Some.task c.in-Some.ensures.0)

pub look-requires-clause-kept : goal.look-requires-clause-kept
look-requires-clause-kept g c =
    kept_as _ _ _ _ _ _ _ _ c.acts.invariant.planned c.acts.invariant.kept c.requires.kept

pub acts-preserved : goal.acts-preserved
acts-preserved g c = record {
  sound = c.look.ensures.sound;
  planned = c.look.ensures.planned ∙ c.acts.invariant.planned;
  kept = kept_then _ _ _ _ _ _ _ _ _ _ c.acts.invariant.planned c.acts.invariant.kept c.look.ensures.kept;
  none = λ n. no_scopes_looked (g.S.Standings.planned c.acts.standings) (progress c.args.history.now.events)
      (g.S.Standings.known c.look.new.standings) (g.S.Standings.noted c.look.new.standings) c.acts.agenda
      c.look.new.agenda c.in-Some.task c.in_ok-body.field-0 c.in_ok-body.ensures.looked (c.acts.invariant.none n);
}

pub returns-in_err-body-clause-kept : goal.returns-in_err-body-clause-kept
returns-in_err-body-clause-kept g c =
    kept_then _ _ _ _ _ _ _ _ _ _ c.acts.invariant.planned c.acts.invariant.kept c.look.ensures.kept

pub returns-in-Some-2-clause-kept : goal.returns-in-Some-2-clause-kept
returns-in-Some-2-clause-kept g c =
    kept_then _ _ _ _ _ _ _ _ _ _ c.acts.invariant.planned c.acts.invariant.kept c.look.ensures.kept
