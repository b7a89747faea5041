use Rattle.std.proofs.Common.{sym, subst, ap, map, ◌∙◌}
use Rattle.std.specs.Prelude.{◌||◌}
use Rattle.arm_value.specs.View.{json}
use Rattle.deploy_cells.specs.Listing.{instances_of}
use Rattle.plan_listing.specs.Hits.{is_wanted}
use Rattle.plan_listing.proofs.HitLemmas.{IsSeekingIn, seeking_in_begins, sought_here, sought_later}
use Rattle.plan_listing.proofs.listing.first_among.Goals as goal

pub loop-number-init : goal.loop-number-init
loop-number-init c =
    seeking_in_begins (is_wanted c.args.wanted.now) (map instances_of (map json c.args.deployments.now))

pub returns-in-Some : goal.returns-in-Some
returns-in-Some c =
    sought_here (is_wanted c.args.wanted.now) c.args.deployments.now c.loop-number.number c.loop-number.left
    c.index-deployments-number.result c.first_in-hit.result c.loop-number-test.true c.index-deployments-number.is
    c.first_in-hit.ensures c.loop-number.invariant c.in-Some.index (sym c.in-Some.ensures)

pub loop-number-preserved : goal.loop-number-preserved
loop-number-preserved c =
    subst (IsSeekingIn (is_wanted c.args.wanted.now) (map instances_of (map json c.args.deployments.now)) _)
    (sym (c.is_either-left.ensures ∙ ap (λ b. c.loop-number.left || b) c.is_left.ensures))
    (sought_later (is_wanted c.args.wanted.now) c.args.deployments.now c.loop-number.number c.loop-number.left
    c.index-deployments-number.result c.first_in-hit.result c.loop-number-test.true c.index-deployments-number.is
    c.first_in-hit.ensures c.loop-number.invariant (sym c.in-None.ensures))
