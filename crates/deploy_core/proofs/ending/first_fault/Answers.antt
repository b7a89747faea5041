use Rattle.std.proofs.Common.{◌∙◌}
use Rattle.deploy_histories.specs.Events.{progress}
use Rattle.deploy_core.proofs.EndLemmas.{turn_none}
use Rattle.board_dealing.proofs.LookLemmas.{kept_then, kept_as}
use Rattle.deploy_core.proofs.ending.first_fault.Goals as goal

pub turn-requires-clause-kept : goal.turn-requires-clause-kept
turn-requires-clause-kept g c =
    kept_as _ _ _ _ _ _ _ _ c.loop-task.invariant.planned c.loop-task.invariant.kept c.requires.kept

pub returns-in_err-fault-clause-kept : goal.returns-in_err-fault-clause-kept
returns-in_err-fault-clause-kept g c =
    kept_then _ _ _ _ _ _ _ _ _ _ c.loop-task.invariant.planned c.loop-task.invariant.kept c.turn.ensures.kept

pub returns-in-Some-clause-kept : goal.returns-in-Some-clause-kept
returns-in-Some-clause-kept g c =
    kept_then _ _ _ _ _ _ _ _ _ _ c.loop-task.invariant.planned c.loop-task.invariant.kept c.turn.ensures.kept

pub loop-task-preserved : goal.loop-task-preserved
loop-task-preserved g c = record {
  sound = c.turn.ensures.sound;
  planned = c.turn.ensures.planned ∙ c.loop-task.invariant.planned;
  kept = kept_then _ _ _ _ _ _ _ _ _ _ c.loop-task.invariant.planned c.loop-task.invariant.kept c.turn.ensures.kept;
  turns = turn_none g.S.Standings.tells (g.S.Standings.planned c.args.standings.now)
      (progress c.args.history.now.events)
      (g.S.Standings.planned c.loop-task.standings) c.loop-task.invariant.planned c.loop-task.task c.turn.new.turns
      c.in_ok-fault.field-0 c.in_default.not-Some c.in_ok-fault.ensures.turn;
}
