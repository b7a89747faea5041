use Rattle.std.proofs.Common.{◌∙◌, ◌++◌, ◌+◌, ℕ, List, Some, map, ap, drop, get_or}
use Rattle.std.proofs.lemmas.List.{drop_more, drop_all}
use Rattle.deploy_core.specs.Names.{name_of}
use Rattle.deployment_reports.proofs.SayingLemmas.{first_task, named_more, named_all}
use Rattle.deployment_reports.proofs.names.task_names.Goals as goal

pub task_name-requires : goal.task_name-requires
task_name-requires g c =
    let tasks = c.args.tasks.now in
    let i = c.loop-task.task-index in
    (first_task (g.S.Standings.planned c.args.board.now.0) (drop i tasks) (get_or tasks i 0) (drop (i + 1) tasks)
    (drop_more tasks i 0 c.loop-task-test.true) c.loop-task.invariant.left).0

pub loop-task-preserved : goal.loop-task-preserved
loop-task-preserved g c =
    let tasks = c.args.tasks.now in
    let i = c.loop-task.task-index in
    let x = g.S.Standings.planned c.args.board.now.0 in
    let named = name_of g.S.Standings.titled x in
    let rest = drop (i + 1) tasks in
    let split = drop_more tasks i 0 c.loop-task-test.true in
    record {
      named = ap (λ (l : List (List ℕ)). map Some l ++ map named rest) c.in_ok-push.ensures.items
          ∙ named_more named tasks (drop i tasks) rest (get_or tasks i 0) c.loop-task.names.items _ split
          c.in_ok-task_name.ensures c.loop-task.invariant.named;
      left = (first_task x (drop i tasks) (get_or tasks i 0) rest split c.loop-task.invariant.left).1;
    }

pub returns : goal.returns
returns g c =
    let tasks = c.args.tasks.now in
    let i = c.loop-task.task-index in
    named_all (name_of g.S.Standings.titled (g.S.Standings.planned c.args.board.now.0)) tasks (drop i tasks)
    c.loop-task.names.items (drop_all i tasks c.loop-task-test.false) c.loop-task.invariant.named
