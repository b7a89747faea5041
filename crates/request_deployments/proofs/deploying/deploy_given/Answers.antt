use Rattle.std.proofs.Common.{inl, refl}
use Rattle.command_refusals.specs.Requests.{name_report}
use Rattle.command_words.specs.Commands.{deploy_asked}
use Rattle.request_deployments.proofs.RequestLemmas.{of_place, is_bad, none_bad, may_deploy, down, down_quiet}
use Rattle.request_deployments.proofs.deploying.deploy_given.Goals as goal

pub deploy_placed-outcome-requires-clause-allowed : goal.deploy_placed-outcome-requires-clause-allowed
deploy_placed-outcome-requires-clause-allowed g c κs within =
    may_deploy c.args.bytes.now (deploy_asked c.args.deploy.now) c.in-Ok.place c.args.seats.now
    c.places_are_plain.ensures c.requires (none_bad _ _ c.bad_name.ensures c.in-None.is) c.in-Ok.ensures

pub returns-in-Some : goal.returns-in-Some
returns-in-Some g c =
    down g.P.Provider.may g.P.Provider.tells g.P.Provider.faults g.P.Provider.calls c.args.seats.now
    c.refused.result c.letting_go.result c.name_report.result _ (name_report c.in-Some.name.now) _ _
    c.letting_go.ensures c.requires.ready c.refused.ensures c.name_report.ensures
    (inl (record {
      name = c.in-Some.name.now;
      is_bad = is_bad _ c.in-Some.name _ c.bad_name.ensures c.in-Some.is;
      report = refl;
    }))

pub returns-in-Ok : goal.returns-in-Ok
returns-in-Ok g c =
    of_place g.P.Provider.may g.P.Provider.tells g.P.Provider.faults g.P.Provider.calls c.args.seats.now
    c.deploy_placed-outcome.new.seats c.deploy_placed-outcome.result c.letting_go-in-Ok.result
    c.args.bytes.now (deploy_asked c.args.deploy.now) c.args.given c.in-Ok.place
    c.letting_go-in-Ok.ensures c.in-Ok.ensures (none_bad _ _ c.bad_name.ensures c.in-None.is)
    c.deploy_placed-outcome.ensures

pub returns-in-Err : goal.returns-in-Err
returns-in-Err g c =
    down_quiet g.P.Provider.may g.P.Provider.tells g.P.Provider.faults g.P.Provider.calls c.args.seats.now
    c.refused-in-Err.result c.letting_go-in-Err.result _ _ _ _ c.letting_go-in-Err.ensures
    c.requires.ready c.refused-in-Err.ensures
