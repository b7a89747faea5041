use Rattle.arm_value.specs.Look.{fold}
use Rattle.point_rows.proofs.OutputAnswers.{shown_value, shown_away, shown_missing}
use Rattle.point_rows.proofs.outputs.output_by.Goals as goal

pub returns-in-Value : goal.returns-in-Value
returns-in-Value c =
    shown_value c.args.table.now c.args.later.now c.args.inside (fold c.args.name.now) c.requires.ready
    c.requires.fit c.requires.inside c.args.condition c.requires.line c.index.result.now c.in-Value.value
    c.index.ensures
    c.in-Value.is

pub returns-in-Away : goal.returns-in-Away
returns-in-Away c =
    shown_away c.args.table.now c.args.later.now c.args.inside (fold c.args.name.now) c.requires.ready
    c.requires.fit c.requires.inside c.args.condition c.requires.line c.index.result.now c.index.ensures c.in-Away.is

pub returns-in-Missing : goal.returns-in-Missing
returns-in-Missing c =
    shown_missing c.args.table.now c.args.later.now c.args.inside (fold c.args.name.now) c.requires.ready
    c.requires.fit c.requires.inside c.args.condition c.requires.line c.index.result.now c.index.ensures
    c.in-Missing.is
