use Rattle.arm_value.specs.Look.{fold}
use Rattle.plan_sight.proofs.LookLemmas.{frames_there, found_some, found_none}
use Rattle.point_rows.proofs.SeenNowLemmas.{undeclared_told}
use Rattle.point_rows.proofs.outputs.output_in.Goals as goal

pub offered_line-requires-clause-there : goal.offered_line-requires-clause-there
offered_line-requires-clause-there c = frames_there c.args.table.now c.args.inside c.requires.inside.there

pub output_by-requires-clause-line : goal.output_by-requires-clause-line
output_by-requires-clause-line c =
    found_some _ c.in-Ok-Some.field-0 c.in-Ok-Some.condition c.in-Ok-Some.field-0-is c.in-Ok-Some.ensures.found

pub returns-in-Ok-None : goal.returns-in-Ok-None
returns-in-Ok-None c =
    undeclared_told c.args.table.now c.args.later.now c.args.inside (fold c.args.name.now) c.requires.ready
    c.requires.inside (found_none _ c.in-Ok-None.field-0 c.in-Ok-None.field-0-is c.in-Ok-None.ensures.missing)
