use Rattle.std.proofs.Common.{subst}
use Rattle.arm_value.specs.View.{json}
use Rattle.reading.specs.Reading.{read}
use Rattle.plan_sight.specs.Ready.{told_in}
use Rattle.plan_sight.specs.Seen.{Yields}
use Rattle.plan_nested.proofs.SeekLemmas.{found_there, found_always}
use Rattle.plan_nested.proofs.seeking.read_deployments.Goals as goal

pub returns-in-Ok-Some : goal.returns-in-Ok-Some
returns-in-Ok-Some c =
    let l = found_there _ c.in-Ok-Some.field-0 c.in-Ok-Some.at c.in-Ok-Some.field-0-is c.in-Ok-Some.ensures.found in
    subst (λ x. Yields (λ v. json v.now) c.args.table.now c.read_at.result (told_in c.args.table.now (read x))) l.is
    c.read_at.ensures

pub unreachable-requires : goal.unreachable-requires
unreachable-requires c =
    found_always _ c.in-Ok-None.field-0 c.in-Ok-None.field-0-is c.in-Ok-None.ensures.found
