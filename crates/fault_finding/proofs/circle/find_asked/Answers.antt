use Rattle.std.proofs.Common.{◌≡◌, ◌∙◌, get_or, sym, false}
use Rattle.std.proofs.lemmas.List.{get_or_default}
use Rattle.plan_filling.specs.Rows.{row_at}
use Rattle.plan_table.specs.Whole.{rows_in}
use Rattle.plan_tasks.specs.Answered.{is_asked}
use Rattle.fault_finding.proofs.PlaceLemmas.{has_at, each_more, each_all}
use Rattle.fault_finding.proofs.circle.find_asked.Goals as goal

pub returns-then-is_asked_at-clause-some : goal.returns-then-is_asked_at-clause-some
returns-then-is_asked_at-clause-some c =
    let at = get_or c.args.round.now c.places.at-index 0 in (
      has_at c.args.round.now c.places.at-index at c.places-test.true
          (get_or_default c.args.round.now c.places.at-index 0 at c.places-test.true),
      sym c.is_asked_at.ensures ∙ c.if-is_asked_at.true,
    )

pub places-preserved : goal.places-preserved
places-preserved c =
    let at = get_or c.args.round.now c.places.at-index 0 in
    each_more (λ x. is_asked (row_at (rows_in c.args.table.now) x).cell ≡ false) c.args.round.now c.places.at-index
    at c.places-test.true (get_or_default c.args.round.now c.places.at-index 0 at c.places-test.true) c.places.invariant
    (sym c.is_asked_at.ensures ∙ c.if-is_asked_at.false)

pub returns-clause-none : goal.returns-clause-none
returns-clause-none c =
    each_all (λ x. is_asked (row_at (rows_in c.args.table.now) x).cell ≡ false) c.args.round.now c.places.at-index
    c.places-test.false c.places.invariant
