use Rattle.std.proofs.Common.{ap}
use Rattle.arm_value.specs.View.{json}
use Rattle.command_words.specs.Commands.{deploy_asked}
use Rattle.request_deployments.proofs.RequestLemmas.{of_read}
use Rattle.request_deployments.specs.Given.{request_with}
use Rattle.template_deployments.proofs.CameLemmas.{turned_down}
use Rattle.request_deployments.proofs.deploying.deploy_placed.Goals as goal

pub returns-in-Ok : goal.returns-in-Ok
returns-in-Ok g c =
    of_read g.P.Provider.may g.P.Provider.tells g.P.Provider.faults g.P.Provider.calls c.args.seats.now
    c.deploy_value-outcome.new.seats c.deploy_value-outcome.result c.letting_go.result c.args.bytes.now
    (json c.in-Ok.value) _ (request_with (deploy_asked c.args.deploy.now) c.args.given.now c.args.place.now)
    c.args.place.now c.letting_go.ensures (ap (λ h. record {
      given = c.args.given.now;
      place = c.args.place.now;
      mode = c.args.deploy.now.mode;
      held = h;
    }) c.new-held.ensures) c.in-Ok.ensures c.deploy_value-outcome.ensures

pub returns-in-Err : goal.returns-in-Err
returns-in-Err g c =
    turned_down g.P.Provider.may g.P.Provider.tells g.P.Provider.faults g.P.Provider.calls c.args.seats.now
    c.refused.result _ _ _ _ c.requires.allowed.may.ready c.refused.ensures tt
