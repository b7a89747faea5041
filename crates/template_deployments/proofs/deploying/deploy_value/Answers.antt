use Rattle.std.proofs.Common.{inl}
use Rattle.arm_value.specs.View.{json}
use Rattle.command_refusals.specs.Templates.{template_report}
use Rattle.template_deployments.specs.Requests.{request_of}
use Rattle.template_deployments.specs.Refusals.{IsRefusal}
use Rattle.template_deployments.proofs.CameLemmas.{value_ran, turned_down, if_says_as}
use Rattle.template_deployments.proofs.deploying.deploy_value.Goals as goal

pub returns-in-Ok : goal.returns-in-Ok
returns-in-Ok g c =
    value_ran g.P.Provider.may g.P.Provider.tells g.P.Provider.faults g.P.Provider.calls c.args.seats.now
    c.deploy_read-outcome.new.seats c.deploy_read-outcome.result c.letting_go.result c.args.value.now c.in-Ok.template
    c.args.asked
    c.in-Ok.ensures.states c.letting_go.ensures c.deploy_read-outcome.ensures

pub returns-in-Err : goal.returns-in-Err
returns-in-Err g c =
    let q = request_of c.args.asked in
    let v = json c.args.value.now in
    turned_down g.P.Provider.may g.P.Provider.tells g.P.Provider.faults g.P.Provider.calls c.args.seats.now
    c.refused.result c.letting_go-in-Err.result (IsRefusal v q) _ _ c.requires.ready c.refused.ensures
    (if_says_as (IsRefusal v q) (template_report c.in-Err.fault) c.template_report.result c.letting_go-in-Err.result
    c.letting_go-in-Err.ensures c.template_report.ensures (λ r e. inl (c.in-Err.fault, (c.in-Err.ensures.fault, e))))
