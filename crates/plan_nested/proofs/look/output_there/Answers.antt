use Rattle.std.proofs.Common.{subst}
use Rattle.arm_value.specs.View.{json}
use Rattle.arm_env.specs.Look.{a_value}
use Rattle.plan_sight.specs.Sites.{value_of}
use Rattle.plan_sight.specs.Ready.{told_in}
use Rattle.plan_sight.specs.Seen.{Shows}
use Rattle.plan_sight.proofs.LookLemmas.{found_some, found_none}
use Rattle.plan_nested.proofs.look.output_there.Goals as goal

pub returns-in-Ok-Some : goal.returns-in-Ok-Some
returns-in-Ok-Some c =
    let l = found_some _ c.in-Ok-Some.field-0 c.in-Ok-Some.at c.in-Ok-Some.field-0-is c.in-Ok-Some.ensures.found in
    subst (λ x. Shows (λ v. a_value (json v.now)) c.args.table.now c.look_at.result
    (told_in c.args.table.now (value_of x))) l.is c.look_at.ensures

pub unreachable-requires : goal.unreachable-requires
unreachable-requires c =
    found_none _ c.in-Ok-None.field-0 c.in-Ok-None.field-0-is c.in-Ok-None.ensures.missing c.args.condition
    c.requires.line c.requires.is_true
