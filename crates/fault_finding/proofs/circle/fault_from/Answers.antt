use Rattle.std.proofs.Common.{List, ℕ, drop, sym, ap, subst, ◌∙◌}
use Rattle.plan_table.specs.Whole.{whole_of, rows_in}
use Rattle.fault_finding.specs.Circles.{IsRound}
use Rattle.fault_finding.proofs.PlaceLemmas.{rest_is}
use Rattle.fault_finding.proofs.circle.fault_from.Goals as goal

pub round_fault-requires-clause-round : goal.round_fault-requires-clause-round
round_fault-requires-clause-round c =
    subst (λ (xs : List ℕ). IsRound (whole_of c.args.table.now) (rows_in c.args.table.now) xs)
    (ap (λ (k : ℕ). drop k c.args.places.now) (sym c.place_in-first.ensures.first)
    ∙ sym (rest_is c.args.places.now c.place_in-first.result)) c.requires.round
