use Rattle.std.proofs.Common.{inl}
use Rattle.command_refusals.specs.Templates.{bind_report}
use Rattle.template_deployments.specs.Requests.{request_of}
use Rattle.template_deployments.specs.Refusals.{IsUnrun}
use Rattle.template_tree.specs.View.{template_tree}
use Rattle.template_deployments.proofs.CameLemmas.{read_ran, turned_down, if_says_as}
use Rattle.template_deployments.proofs.deploying.deploy_read.Goals as goal

pub returns-in-Ok : goal.returns-in-Ok
returns-in-Ok g c =
    read_ran g.P.Provider.may g.P.Provider.tells g.P.Provider.faults g.P.Provider.calls c.args.seats.now
    c.deploy_bound-outcome.new.seats c.deploy_bound-outcome.result c.letting_go.result c.args.template.now c.args.asked
    c.letting_go.ensures c.deploy_bound-outcome.ensures

pub returns-in-Err : goal.returns-in-Err
returns-in-Err g c =
    let q = request_of c.args.asked in
    let t = template_tree c.args.template.now in
    turned_down g.P.Provider.may g.P.Provider.tells g.P.Provider.faults g.P.Provider.calls c.args.seats.now
    c.refused.result c.letting_go-in-Err.result (IsUnrun q t) _ _ c.requires.may.ready c.refused.ensures
    (if_says_as (IsUnrun q t) (bind_report c.in-Err.fault) c.bind_report.result c.letting_go-in-Err.result
    c.letting_go-in-Err.ensures c.bind_report.ensures (λ r e. inl (c.in-Err.fault, (c.in-Err.ensures.fault, e))))
