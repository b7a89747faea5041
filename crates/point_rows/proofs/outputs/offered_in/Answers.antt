use Rattle.plan_sight.proofs.LookLemmas.{found_some, found_none}
use Rattle.arm_value.specs.Look.{fold}
use Rattle.point_rows.proofs.OutputAnswers.{truth_shown, listed_entry}
use Rattle.point_rows.proofs.outputs.offered_in.Goals as goal

pub is_offered-requires : goal.is_offered-requires
is_offered-requires c = record {
  listed =
      listed_entry c.args.table.now c.args.later.now c.args.frame (fold c.args.name.now) c.requires.fit c.in-Ok-Some.at
      (found_some _ c.in-Ok-Some.field-0 c.in-Ok-Some.at c.in-Ok-Some.field-0-is c.in-Ok-Some.ensures.found);
}

pub returns-in-Ok-Some : goal.returns-in-Ok-Some
returns-in-Ok-Some c =
    truth_shown c.args.table.now c.args.later.now c.args.frame (fold c.args.name.now) c.requires.ready c.in-Ok-Some.at
    (found_some _ c.in-Ok-Some.field-0 c.in-Ok-Some.at c.in-Ok-Some.field-0-is c.in-Ok-Some.ensures.found)
    c.is_offered.result c.is_offered.ensures

pub unreachable-requires : goal.unreachable-requires
unreachable-requires c =
    found_none _ c.in-Ok-None.field-0 c.in-Ok-None.field-0-is c.in-Ok-None.ensures.missing c.requires.named
