use Rattle.plan_table.specs.Whole.{whole_of, rows_in}
use Rattle.std.proofs.Common.{refl, ◌∙◌}
use Rattle.fault_finding.proofs.RoundLemmas.{round_is}
use Rattle.fault_finding.proofs.circle.circle_fault.Goals as goal

pub fault_from-fault-requires-clause-round : goal.fault_from-fault-requires-clause-round
fault_from-fault-requires-clause-round c =
    round_is (whole_of c.args.table.now) (rows_in c.args.table.now) c.args.circle.places.items c.as_slice.result.now
    c.args.circle.last c.args.circle.back _ c.requires.circle (c.as_slice.ensures.value ∙ c.in-Ok.ensures) refl
