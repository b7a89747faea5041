use Rattle.std.proofs.Common.{map, arith}
use Rattle.std.proofs.lemmas.List.{length-map}
use Rattle.arm_value.specs.View.{json}
use Rattle.deploy_cells.specs.Cells.{step}
use Rattle.plan_table.specs.Found.{scope_at}
use Rattle.dependency_faults.proofs.CheckLemmas.{none_before, met_more, value_read, is_read, all_met}
use Rattle.dependency_faults.proofs.check.check_values.Goals as goal

pub elements-init : goal.elements-init
elements-init c =
    none_before c.args.table.now (scope_at c.args.table.now c.args.opener.frame).position (map json c.args.values.now)

pub check_value-requires-clause-read : goal.check_value-requires-clause-read
check_value-requires-clause-read c =
    is_read c.args.table.now c.args.opener (map json c.args.values.now) c.elements.number
    (json c.index-values-number.result) c.requires.depending
    (value_read c.args.values.now c.elements.number c.index-values-number.result c.elements-test.true
    c.index-values-number.is)

pub elements-preserved : goal.elements-preserved
elements-preserved c =
    met_more c.args.table.now (scope_at c.args.table.now c.args.opener.frame).position (map json c.args.values.now)
    c.elements.number (json c.index-values-number.result)
    (value_read c.args.values.now c.elements.number c.index-values-number.result c.elements-test.true
    c.index-values-number.is) c.elements.invariant c.in_ok-check_value.ensures.met

pub returns-clause-met : goal.returns-clause-met
returns-clause-met c =
    let n = length-map c.args.values.now json in
    let h = c.elements-test.false in
    all_met c.args.table.now (scope_at c.args.table.now c.args.opener.frame).position
    (step c.args.opener.resource c.args.opener.copy) (map json c.args.values.now) c.requires.depending
    c.elements.number (omega (arith, n, h)) c.elements.invariant
