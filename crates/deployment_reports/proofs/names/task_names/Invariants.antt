use Rattle.std.proofs.Common.{◌≡◌, ◌++◌, Some, map, drop}
use Rattle.deploy_core.specs.Names.{name_of}
use Rattle.deployment_reports.specs.Sayings.{AreTasks}
use Rattle.deployment_reports.proofs.names.task_names.Given as goal

abbrev pub invariant-loop-task : goal.invariant-loop-task
invariant-loop-task g l =
    let x = g.S.Standings.planned l.board.0 in
    let named = name_of g.S.Standings.titled x in
    record {
      named : map Some l.names.items ++ map named (drop l.task-index l.tasks) ≡ map named l.tasks;
      left : AreTasks x (drop l.task-index l.tasks);
    }
