use Rattle.std.proofs.Common.{sym, ap, ◌∙◌, chars}
use Rattle.std.specs.Prelude.{option_map}
use Rattle.plan_names.specs.Named.{is_spelled}
use Rattle.plan_names.proofs.AroundLemmas.{listed_at, listed_passed, listed_end}
use Rattle.plan_names.proofs.around.first_among.Goals as goal
use Rattle.arm_ids.specs.Members.{deployment_type}

pub returns-in-Some : goal.returns-in-Some
returns-in-Some c =
    listed_at (is_spelled c.args.text.now deployment_type) c.args.deployments.now c.loop-number.number
    c.index-deployments-number.result _ _ c.loop-number-test.true c.index-deployments-number.is
    (sym c.in_ok-found.ensures ∙ ap (option_map (λ n. chars n.now)) c.in-Some.is) c.loop-number.invariant

pub loop-number-preserved : goal.loop-number-preserved
loop-number-preserved c =
    listed_passed (is_spelled c.args.text.now deployment_type) c.args.deployments.now c.loop-number.number
    c.index-deployments-number.result _ c.loop-number-test.true c.index-deployments-number.is
    (sym c.in_ok-found.ensures ∙ ap (option_map (λ n. chars n.now)) c.in-None.is) c.loop-number.invariant

pub returns : goal.returns
returns c =
    listed_end (is_spelled c.args.text.now deployment_type) c.args.deployments.now c.loop-number.number _
    c.loop-number-test.false c.loop-number.invariant
