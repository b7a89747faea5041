use Rattle.std.proofs.Common.{ℕ, List, subst}
use Rattle.deploy_http.specs.Answers.{RefusesFront}
use Rattle.deploy_http.proofs.ReadingLemmas.{input_refused}
use Rattle.deploy_http.proofs.reading.next_plan.Goals as goal

pub returns-in-Refused-clause-plan : goal.returns-in-Refused-clause-plan
returns-in-Refused-clause-plan g c t =
    let P : List ℕ → Type 0 = λ b. RefusesFront b c.in-Refused.fault in
    input_refused _ c.loop-plan.rest _ c.in-Refused.fault (c.loop-plan.invariant.moved t)
    (subst P c.as_slice-bytes.ensures c.in-Refused.ensures)
