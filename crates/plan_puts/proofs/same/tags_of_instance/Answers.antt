use Rattle.std.proofs.Common.{map, sym, ap, subst, ◌∙◌}
use Rattle.foundation.proofs.Options.{if_ok}
use Rattle.tag_needs.specs.Tags.{tags_of}
use Rattle.plan_tasks.specs.Start.{IsFound}
use Rattle.plan_puts.proofs.InstanceLemmas.{of_resource, of_scope}
use Rattle.plan_puts.proofs.same.tags_of_instance.Goals as goal

pub returns-in-Resource : goal.returns-in-Resource
returns-in-Resource c =
    let n = c.requires.instance.number in
    if_ok _ _ c.tags_of_key.result c.tags_of_key.ensures (λ v e.
    of_resource c.args.table.now c.args.frame c.args.resource c.args.copy c.requires.table c.requires.instance
    (subst (IsFound c.args.table.now c.args.frame c.args.resource c.args.copy n.listed) c.in-Resource.is
    (c.in_ok-find_instance.ensures n.listed n.has)) (tags_of v) e)

pub returns-in-Scope : goal.returns-in-Scope
returns-in-Scope c =
    let n = c.requires.instance.number in
    ap (λ ts. map (λ t. t.items) ts) c.new-in-Scope.ensures.items
    ∙ sym (of_scope c.args.table.now c.args.frame c.args.resource c.args.copy c.requires.table c.requires.instance
    c.in-Scope.field-0
    (subst (IsFound c.args.table.now c.args.frame c.args.resource c.args.copy n.listed) c.in-Scope.is
    (c.in_ok-find_instance.ensures n.listed n.has)))
