use Rattle.std.proofs.Common.{sym, ◌∙◌}
use Rattle.arm_value.specs.View.{json}
use Rattle.plan_table.specs.declared.line.Spot.TheVariants.{Parameter, Output, Name}
use Rattle.plan_sight.proofs.RuleLemmas.{spot_here, parameter_there, output_there, rule_of_parameter, rule_of_output}
use Rattle.plan_sight.proofs.RuleLemmas.{rule_by_name}
use Rattle.plan_sight.proofs.rules.meets_rule.Goals as goal

pub returns-in-Parameter : goal.returns-in-Parameter
returns-in-Parameter c =
    let spot = spot_here c.args.table.now c.args.at c.index.result.now
    (Parameter c.in-Parameter.frame c.in-Parameter.number)
    c.requires.listed c.index.ensures c.in-Parameter.is in
    c.meets_parameter.ensures
    ∙ sym (rule_of_parameter c.args.table.now c.requires.laid c.requires.names_differ c.args.at c.requires.listed
    c.in-Parameter.frame c.in-Parameter.number c.parameter_at.result.now (json c.args.value.now) spot
    (parameter_there c.args.table.now c.requires.laid c.requires.names_differ c.args.at c.requires.listed
    c.in-Parameter.frame c.in-Parameter.number spot) c.parameter_at.ensures)

pub returns-in-Output : goal.returns-in-Output
returns-in-Output c =
    let spot = spot_here c.args.table.now c.args.at c.index.result.now (Output c.in-Output.frame c.in-Output.number)
    c.requires.listed c.index.ensures c.in-Output.is in
    c.is_of.ensures
    ∙ sym (rule_of_output c.args.table.now c.requires.laid c.requires.names_differ c.args.at c.requires.listed
    c.in-Output.frame c.in-Output.number c.output_at.result.now (json c.args.value.now) spot
    (output_there c.args.table.now c.requires.laid c.requires.names_differ c.args.at c.requires.listed
    c.in-Output.frame c.in-Output.number spot) c.output_at.ensures)

pub returns-in-Name : goal.returns-in-Name
returns-in-Name c =
    rule_by_name c.args.table.now c.requires.laid c.requires.names_differ c.args.at c.requires.listed c.in-Name.frame
    c.in-Name.resource c.in-Name.field-2 (json c.args.value.now) c.is_name.result
    (spot_here c.args.table.now c.args.at c.index.result.now
    (Name c.in-Name.frame c.in-Name.resource c.in-Name.field-2) c.requires.listed c.index.ensures c.in-Name.is)
    c.is_name.ensures
