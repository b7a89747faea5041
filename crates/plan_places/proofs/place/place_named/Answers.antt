use Rattle.std.proofs.Common.{sym, ap, ◌∙◌, Some}
use Rattle.arm_value.specs.View.{json}
use Rattle.plan_sight.specs.Scopes.{with_deployment}
use Rattle.plan_places.proofs.NameLemmas.{no_place}
use Rattle.plan_places.proofs.place.place_named.Goals as goal

pub returns-in-Ok : goal.returns-in-Ok
returns-in-Ok c =
    ap (λ v. with_deployment c.args.place.now (json v)) c.in-Text.is ∙ ap Some (sym c.in-Ok.ensures)

pub returns-in_default : goal.returns-in_default
returns-in_default c = no_place c.args.place.now c.args.name.now c.in_default.not-Text
