use Rattle.std.proofs.Common.{◌≡◌, length, arith, rules, subst}
use Rattle.plan_tasks.specs.Start.{IsFound, IsTaskOf}
use Rattle.plan_tasks.specs.declared.task.ScopeTask.TheVariants.{Enter, Leave}
use Rattle.plan_tasks.proofs.TableLemmas.{copies_within, resources_count}
use Rattle.plan_tasks.proofs.ListLemmas.{each_more, put_listed, scope_listed, copies_begin, copies_more, there_at}
use Rattle.plan_tasks.proofs.ListLemmas.{resources_more, resources_end}
use Rattle.plan_tasks.proofs.listing.+scopes.Goals as goal
use Rattle.foundation.proofs.Options.{if_ok}

pub list_instance-returns-in_ok-push-in-Resource-clause-listed :
    goal.list_instance-returns-in_ok-push-in-Resource-clause-listed
list_instance-returns-in_ok-push-in-Resource-clause-listed t c =
    λ x e.
    put_listed c.args.table.now c.args.frame c.args.resource c.args.copy c.args.tasks.now.items c.push.new.self.items x
    c.in_ok-push-in-Resource.ensures.items
    (subst (IsFound c.args.table.now c.args.frame c.args.resource c.args.copy x) c.in-Resource.is
    (c.in_ok-find_instance.ensures x e))

pub list_instance-returns-in-Scope-clause-listed : goal.list_instance-returns-in-Scope-clause-listed
list_instance-returns-in-Scope-clause-listed t c =
    if_ok _ _ c.list_scope.result c.list_scope.ensures.listed (λ u h x e.
    scope_listed c.args.table.now c.args.frame c.args.resource c.args.copy c.in-Scope.opened c.args.tasks.now.items
    c.list_scope.new.tasks.items x
    (subst (IsFound c.args.table.now c.args.frame c.args.resource c.args.copy x) c.in-Scope.is
    (c.in_ok-find_instance.ensures x e)) h)

pub list_resource-copies-init : goal.list_resource-copies-init
list_resource-copies-init t c = record {
  listed = copies_begin c.args.table.now c.args.frame c.args.resource c.in_ok-count.count c.args.tasks.now.items
      c.in_ok-count.ensures;
  there = λ h. h;
}

pub list_resource-list_instance-requires : goal.list_resource-list_instance-requires
list_resource-list_instance-requires t c =
    let x = there_at c.args.table.now c.args.frame c.args.resource c.requires.resource in (
      omega (arith, c.decreases),
      (
        c.requires.table,
        copies_within c.args.table.now c.args.frame c.args.resource c.in_ok-count.count c.copies.copy x.0
            c.requires.there x.1 (c.in_ok-count.ensures x.0 x.1) c.copies-test.true,
      ),
    )

pub list_resource-copies-preserved : goal.list_resource-copies-preserved
list_resource-copies-preserved t c = record {
  listed = copies_more c.args.table.now c.args.frame c.args.resource c.copies.copy c.in_ok-count.count
      c.args.tasks.now.items c.copies.tasks.items c.list_instance.new.tasks.items c.copies-test.true
      c.in_ok-list_instance.ensures.listed c.copies.invariant.listed;
  there = λ h. c.in_ok-list_instance.ensures.there (c.copies.invariant.there h);
}

pub list_scope-resources-preserved : goal.list_scope-resources-preserved
list_scope-resources-preserved t c =
    let n : c.len-count.result ≡ length c.index.result.now.resources.items = search rules in
    let m = resources_count c.args.table.now c.args.frame c.len-count.result c.index.result.now c.requires.there
    c.index.ensures n in
    let h = c.resources-test.true in
    record {
      listed = resources_more c.args.table.now c.args.frame c.resources.resource c.push.new.self.items
          c.resources.tasks.items c.list_resource.new.tasks.items (omega (arith, m, h))
          c.in_ok-list_resource.ensures.listed c.resources.invariant.listed;
      most = omega (arith, h);
      there = λ k. c.in_ok-list_resource.ensures.there (c.resources.invariant.there k);
    }

pub list_scope-returns-clause-listed : goal.list_scope-returns-clause-listed
list_scope-returns-clause-listed t c =
    let n : c.len-count.result ≡ length c.index.result.now.resources.items = search rules in
    resources_end c.args.table.now c.args.frame c.resources.resource c.len-count.result c.args.tasks.now.items
    c.push.new.self.items c.resources.tasks.items c.push-2.new.self.items c.requires.table c.requires.there
    (resources_count c.args.table.now c.args.frame c.len-count.result c.index.result.now c.requires.there
    c.index.ensures n)
    c.resources-test.false c.resources.invariant.most c.in_ok-push.ensures.items c.in_ok-push-2.ensures.items
    c.resources.invariant.listed

pub list_scope-returns-clause-there : goal.list_scope-returns-clause-there
list_scope-returns-clause-there t c =
    λ h.
    each_more (IsTaskOf c.args.table.now) c.resources.tasks.items c.push-2.new.self.items (Leave c.args.frame)
    c.in_ok-push-2.ensures.items c.requires.there
    (c.resources.invariant.there (each_more (IsTaskOf c.args.table.now) c.args.tasks.now.items c.push.new.self.items
    (Enter c.args.frame) c.in_ok-push.ensures.items c.requires.there h))
