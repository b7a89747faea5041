use Rattle.command_refusals.specs.Templates.{plan_report}
use Rattle.template_deployments.specs.Requests.{request_of}
use Rattle.template_deployments.specs.Refusals.{IsUnplanned}
use Rattle.template_tree.specs.View.{template_tree}
use Rattle.template_deployments.proofs.CameLemmas.{may_run, bound_ran, unplanned, turned_down, if_says_as}
use Rattle.template_deployments.proofs.deploying.deploy_bound.Goals as goal

pub plan-requires : goal.plan-requires
plan-requires g c = record {
  names_differ = c.stated_names_differ.ensures (template_tree c.args.template.now) c.requires.read.stated;
}

pub run_plan-outcome-requires-clause-allowed : goal.run_plan-outcome-requires-clause-allowed
run_plan-outcome-requires-clause-allowed g c κs within =
    may_run c.args.template.now c.args.bound.now c.args.asked c.in-Ok.plan c.in-Ok.ensures.whole c.args.seats.now
    c.in-Ok.ensures.accepted c.requires

pub returns-in-Ok : goal.returns-in-Ok
returns-in-Ok g c =
    bound_ran c.args.template.now c.args.bound.now c.args.asked c.in-Ok.plan c.in-Ok.ensures.whole
    g.P.Provider.may g.P.Provider.tells g.P.Provider.faults g.P.Provider.calls c.args.seats.now
    c.run_plan-outcome.new.seats
    c.run_plan-outcome.result c.letting_go.result c.accepted_plans_have_histories.ensures c.in-Ok.ensures.accepted
    c.in-Ok.ensures.mode c.requires c.letting_go.ensures c.run_plan-outcome.ensures

pub returns-in-Err : goal.returns-in-Err
returns-in-Err g c =
    let q = request_of c.args.asked in
    let t = template_tree c.args.template.now in
    turned_down g.P.Provider.may g.P.Provider.tells g.P.Provider.faults g.P.Provider.calls c.args.seats.now
    c.refused.result c.letting_go-in-Err.result (IsUnplanned q t) _ _ c.requires.read.may.ready c.refused.ensures
    (if_says_as (IsUnplanned q t) (plan_report c.in-Err.fault) c.plan_report.result c.letting_go-in-Err.result
    c.letting_go-in-Err.ensures c.plan_report.ensures
    (λ r e. unplanned q t c.args.bound.now c.in-Err.fault r c.requires.bound c.in-Err.ensures.fault e))
