use Rattle.std.proofs.Common.{ap, ◌∙◌}
use Rattle.plan_tasks.proofs.KeyLemmas.{put_at, none_at, enter_at, leave_at, keys_end}
use Rattle.plan_tasks.proofs.keys.list_keys.Goals.{in-Put+in-Ok-Some+in_ok-push-in-Ok-Some, in-Enter, in-Leave}
use Rattle.plan_tasks.proofs.keys.list_keys.Goals as goal

pub returns-in-Ok-None : goal.returns-in-Ok-None
returns-in-Ok-None c =
    none_at c.args.table.now c.args.tasks.now c.tasks.task-index c.in-Put.frame c.in-Put.resource c.in-Put.copy _
    c.tasks.keys.items _ c.requires.table c.requires.tasks c.tasks-test.true c.in-Put.is c.in-Ok-None.ensures
    c.in-Ok-None.field-0-is c.tasks.invariant

pub tasks-preserved : goal.tasks-preserved
tasks-preserved c =
    elim c.match-task.branch [
      | in-Put+in-Ok-Some+in_ok-push-in-Ok-Some w ↦
          put_at c.args.table.now c.args.tasks.now c.tasks.task-index w.in-Put.frame w.in-Put.resource w.in-Put.copy _
          c.tasks.keys.items c.match-task.keys.items _ _ c.requires.table c.requires.tasks c.tasks-test.true w.in-Put.is
          w.in-Ok-Some.ensures w.in-Ok-Some.field-0-is
          (ap (λ v. v.items) w.keys-is ∙ w.in_ok-push-in-Ok-Some.ensures.items) c.tasks.invariant
      | in-Enter w ↦
          enter_at c.args.table.now c.args.tasks.now c.tasks.task-index w.in-Enter.field-0 _ c.tasks.keys.items
          c.match-task.keys.items c.tasks-test.true w.in-Enter.is (ap (λ v. v.items) w.keys-is) c.tasks.invariant
      | in-Leave w ↦
          leave_at c.args.table.now c.args.tasks.now c.tasks.task-index w.in-Leave.field-0 _ c.tasks.keys.items
          c.match-task.keys.items c.tasks-test.true w.in-Leave.is (ap (λ v. v.items) w.keys-is) c.tasks.invariant
    ]

pub returns : goal.returns
returns c =
    keys_end c.args.table.now c.args.tasks.now c.tasks.task-index c.tasks.keys.items c.tasks-test.false
    c.tasks.invariant
