use Rattle.plan_tasks.specs.Start.{task_of, IsTaskOf}
use Rattle.plan_elements.proofs.ScopeLemmas.{each_at}
use Rattle.plan_assembly.specs.Plans.{task_in, IsTaskIn}
use Rattle.plan_assembly.proofs.ListLemmas.{more, done, each_more}
use Rattle.plan_assembly.proofs.listing.push_tasks.Goals as goal

pub loop-task-preserved : goal.loop-task-preserved
loop-task-preserved c = record {
  listed = λ os.
      more (task_in os) (task_of os) c.loop-task.all.items c.push.new.self.items c.planned.result c.args.tasks.now
      c.loop-task.task-index _ _ c.loop-task-test.true (c.planned.ensures.same os) c.in_ok-push.ensures.items
      (c.loop-task.invariant.listed os);
  there = λ t h old.
      each_more (IsTaskIn t) c.loop-task.all.items c.push.new.self.items c.planned.result c.in_ok-push.ensures.items
      (c.loop-task.invariant.there t h old)
      (c.planned.ensures.there t
      (each_at (IsTaskOf t) c.args.tasks.now c.loop-task.task-index _ h c.loop-task-test.true));
}

pub returns-clause-listed : goal.returns-clause-listed
returns-clause-listed c = λ os.
    done (task_in os) (task_of os) c.loop-task.all.items c.args.tasks.now c.loop-task.task-index _
    c.loop-task-test.false (c.loop-task.invariant.listed os)
