use Rattle.arm_value.specs.Look.{fold}
use Rattle.arm_value.specs.View.{json}
use Rattle.plan_table.specs.Look.{a_value}
use Rattle.plan_sight.proofs.LookLemmas.{owner_within, found_some, found_none, variable_shown, variable_hidden}
use Rattle.plan_sight.proofs.look.look_variable.Goals as goal

pub variable_line-requires-clause-there : goal.variable_line-requires-clause-there
variable_line-requires-clause-there c =
    owner_within c.args.table.now c.args.frame c.index.result.now c.requires.ready c.requires.there c.index.ensures

pub returns-in-Ok-Some : goal.returns-in-Ok-Some
returns-in-Ok-Some c =
    λ place e here.
    variable_shown c.args.table.now c.args.frame (fold c.args.name.now) c.index.result.now c.requires.ready
    c.requires.there c.index.ensures (λ v. a_value (json v.now)) c.look_at.result c.in-Ok-Some.at
    (found_some _ c.in-Ok-Some.field-0 c.in-Ok-Some.at c.in-Ok-Some.field-0-is c.in-Ok-Some.ensures.found)
    c.look_at.ensures place e here

pub returns-in-Ok-None : goal.returns-in-Ok-None
returns-in-Ok-None c =
    λ place e here.
    variable_hidden c.args.table.now c.args.frame (fold c.args.name.now) c.index.result.now c.requires.ready
    c.requires.there c.index.ensures
    (found_none _ c.in-Ok-None.field-0 c.in-Ok-None.field-0-is c.in-Ok-None.ensures.missing)
    place e here
