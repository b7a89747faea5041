use Rattle.std.proofs.Common.{ap, ◌∙◌}
use Rattle.arm_value.specs.Look.{fold}
use Rattle.arm_value.specs.View.{json}
use Rattle.arm_env.specs.Look.{a_value}
use Rattle.reading.specs.Knowledge.{value}
use Rattle.plan_sight.proofs.LookLemmas.{frames_there}
use Rattle.plan_nested.proofs.OutputLemmas.{output_shown, output_hidden, output_stops, shows_as}
use Rattle.plan_nested.proofs.look.output_by.Goals as goal

pub output_there-requires-clause-inside : goal.output_there-requires-clause-inside
output_there-requires-clause-inside c = frames_there c.args.table.now c.args.inside c.requires.inside.there

pub output_there-requires-clause-is_true : goal.output_there-requires-clause-is_true
output_there-requires-clause-is_true c = c.in-Ok.ensures.line c.if-offered.true

pub returns-then-offered : goal.returns-then-offered
returns-then-offered c =
    shows_as (λ v. a_value (json v.now)) c.args.table.now c.output_there.result _ _
    (output_shown c.args.table.now c.args.inside (fold c.args.name.now) c.requires.ready c.requires.inside
    c.args.condition c.requires.line (c.in-Ok.ensures.told ∙ ap value c.if-offered.true)) c.output_there.ensures

pub returns-else-offered : goal.returns-else-offered
returns-else-offered c =
    output_hidden c.args.table.now c.args.inside (fold c.args.name.now) c.requires.ready c.requires.inside
    c.args.condition c.requires.line (c.in-Ok.ensures.told ∙ ap value c.if-offered.false)

pub returns-in-Err : goal.returns-in-Err
returns-in-Err c =
    output_stops c.args.table.now c.args.inside (fold c.args.name.now) c.requires.ready c.requires.inside
    c.args.condition c.requires.line c.in-Err.lack c.in-Err.ensures.told
