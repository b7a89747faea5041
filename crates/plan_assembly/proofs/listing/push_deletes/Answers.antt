use Rattle.std.proofs.Common.{ap, ◌∙◌}
use Rattle.plan_cells.specs.Tasks.{delete}
use Rattle.plan_assembly.specs.declared.plan.Task.TheVariants.{Delete}
use Rattle.plan_assembly.specs.Plans.{task_in, IsTaskIn}
use Rattle.plan_assembly.proofs.ListLemmas.{more, done, each_more}
use Rattle.plan_assembly.proofs.listing.push_deletes.Goals as goal

pub loop-key-preserved : goal.loop-key-preserved
loop-key-preserved c = record {
  listed = λ os.
      more (task_in os) delete c.loop-key.all.items c.push.new.self.items _ c.args.keys.now c.loop-key.key-index _ _
      c.loop-key-test.true (ap delete (c.in_ok-key.ensures ∙ c.key-item.is)) c.in_ok-push.ensures.items
      (c.loop-key.invariant.listed os);
  there = λ t old.
      each_more (IsTaskIn t) c.loop-key.all.items c.push.new.self.items (Delete c.in_ok-key.key)
      c.in_ok-push.ensures.items (c.loop-key.invariant.there t old) tt;
}

pub returns-clause-listed : goal.returns-clause-listed
returns-clause-listed c = λ os.
    done (task_in os) delete c.loop-key.all.items c.args.keys.now c.loop-key.key-index _ c.loop-key-test.false
    (c.loop-key.invariant.listed os)
