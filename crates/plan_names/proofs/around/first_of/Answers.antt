use Rattle.plan_names.specs.Named.{is_spelled}
use Rattle.plan_names.proofs.AroundLemmas.{name_at, name_passed, names_end}
use Rattle.plan_names.proofs.around.first_of.Goals as goal
use Rattle.arm_ids.specs.Members.{deployment_type}

pub returns-then-branch : goal.returns-then-branch
returns-then-branch c =
    name_at (is_spelled c.args.text.now deployment_type) c.args.instances.now c.loop-index.index
    c.index-instances-index.result c.entry_of-entry.result _ _ c.loop-index-test.true c.index-instances-index.is
    c.entry_of-entry.ensures c.in_ok-is_deployment.ensures c.if-branch.true c.loop-index.invariant

pub loop-index-preserved : goal.loop-index-preserved
loop-index-preserved c =
    name_passed (is_spelled c.args.text.now deployment_type) c.args.instances.now c.loop-index.index
    c.index-instances-index.result c.entry_of-entry.result _ _ c.loop-index-test.true c.index-instances-index.is
    c.entry_of-entry.ensures c.in_ok-is_deployment.ensures c.if-branch.false c.loop-index.invariant

pub returns : goal.returns
returns c =
    names_end (is_spelled c.args.text.now deployment_type) c.args.instances.now c.loop-index.index _
    c.loop-index-test.false c.loop-index.invariant
