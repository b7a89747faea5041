use Rattle.arm_value.specs.View.{json}
use Rattle.plan_table.specs.declared.line.Spot.TheVariants.{Parameter, Variable}
use Rattle.plan_sight.proofs.RuleLemmas.{spot_here}
use Rattle.scope_faults.proofs.EntryLemmas.{parameter_broken, variable_met}
use Rattle.scope_faults.proofs.entries.value_fault.Goals as goal

pub returns-in-Parameter : goal.returns-in-Parameter
returns-in-Parameter c =
    let t = c.args.register.now.table in
    let is = spot_here t c.args.at c.index.result.now (Parameter c.in-Parameter.frame c.in-Parameter.number)
    c.requires.listed c.index.ensures c.in-Parameter.is in
    λ l none r. parameter_broken t l c.args.at c.requires.complete.ready c.requires.listed none c.in-Parameter.frame
    c.in-Parameter.number is c.parameter_at.result.now c.parameter_at.ensures (json c.args.raw)
    c.parameter_fault-fault.result c.parameter_fault-fault.ensures r

pub returns-in-Variable : goal.returns-in-Variable
returns-in-Variable c =
    let t = c.args.register.now.table in
    let is = spot_here t c.args.at c.index.result.now (Variable c.in-Variable.field-0 c.in-Variable.field-1)
    c.requires.listed c.index.ensures c.in-Variable.is in
    λ l none r. variable_met t l c.args.at c.requires.complete.ready c.requires.listed none c.in-Variable.field-0
    c.in-Variable.field-1 is (json c.args.raw) r
