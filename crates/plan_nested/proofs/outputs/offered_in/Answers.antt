use Rattle.std.proofs.Common.{subst}
use Rattle.plan_sight.specs.Seen.{Yields}
use Rattle.plan_sight.proofs.LookLemmas.{found_some, found_none}
use Rattle.plan_nested.proofs.OutputLemmas.{truth_told}
use Rattle.plan_nested.proofs.outputs.offered_in.Goals as goal

pub returns-in-Ok-Some : goal.returns-in-Ok-Some
returns-in-Ok-Some c =
    let l = found_some _ c.in-Ok-Some.field-0 c.in-Ok-Some.at c.in-Ok-Some.field-0-is c.in-Ok-Some.ensures.found in
    subst (λ x. Yields (λ b. b) c.args.table.now c.is_offered.result (truth_told c.args.table.now x)) l.is
    c.is_offered.ensures.told

pub unreachable-requires : goal.unreachable-requires
unreachable-requires c =
    found_none _ c.in-Ok-None.field-0 c.in-Ok-None.field-0-is c.in-Ok-None.ensures.missing c.requires.named
