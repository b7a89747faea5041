use Rattle.foundation.proofs.Options.{if_ok}
use Rattle.plan_cells.specs.Start.{start_world}
use Rattle.plan_table.specs.Whole.{whole_of}
use Rattle.plan_tasks.specs.Start.{start_of}
use Rattle.key_faults.proofs.keys.check_keys.Goals as goal

pub returns-clause-resources_differ : goal.returns-clause-resources_differ
returns-clause-resources_differ c =
    let t = c.args.table.now in
    if_ok _ _ c.check_nested.result c.check_nested.ensures.differ (λ u d.
    c.keys_differ.ensures.resources (whole_of t) (start_world (start_of t)) c.in_ok-check_puts.ensures.differ)

pub returns-clause-deployments_differ : goal.returns-clause-deployments_differ
returns-clause-deployments_differ c =
    let t = c.args.table.now in
    if_ok _ _ c.check_nested.result c.check_nested.ensures.differ (λ u d.
    c.keys_differ.ensures.deployments (whole_of t) (start_world (start_of t)) d)
