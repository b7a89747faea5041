use Rattle.std.proofs.Common.{◌≡◌, map, take}
use Rattle.board_dealing.specs.Kept.{enters_or_leaves}
use Rattle.deploy_core.proofs.opening.kinds.Given as goal

abbrev pub invariant-loop-task : goal.invariant-loop-task
invariant-loop-task g l =
    l.kinds.items ≡ map enters_or_leaves (take l.task (g.S.Standings.planned l.standings).tasks)
