use Rattle.std.proofs.Common.{◌++◌}
use Rattle.tag_needs.specs.Tags.{tags_in}
use Rattle.plan_cells.specs.Tasks.{delete}
use Rattle.name_tags.specs.TaskCodes.{task_tags}
use Rattle.plan_table.specs.Whole.{whole_of, scopes_of}
use Rattle.plan_tasks.specs.Start.{start_of}
use Rattle.plan_needs.specs.Numbers.{number_in}
use Rattle.plan_needs.specs.Lists.{tags_of_deletes}
use Rattle.plan_needs.proofs.ScopeLemmas.{one_more}
use Rattle.plan_needs.proofs.deletes.push_delete_tags.Goals as goal

pub loop-key-preserved : goal.loop-key-preserved
loop-key-preserved c =
    λ t.
    one_more (λ k. task_tags (whole_of t) (number_in (scopes_of t)) (start_of t) (delete k)) c.args.keys.now
    c.loop-key.key-index c.key-item.result (tags_in c.args.all.now.items ++ tags_of_deletes t c.args.keys.now)
    c.loop-key.all.items c.push.new.self.items c.in_ok-tags.tags c.loop-key-test.true c.key-item.is
    (c.in_ok-tags.ensures t)
    c.in_ok-push.ensures.items (c.loop-key.invariant t)
