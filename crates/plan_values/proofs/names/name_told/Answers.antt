use Rattle.std.proofs.Common.{refl, ap, ◌∙◌, Err}
use Rattle.std.specs.Prelude.{option_map}
use Rattle.arm_value.specs.View.{json}
use Rattle.plan_cells.specs.Resources.{Listed}
use Rattle.plan_table.specs.Listed.{above_of, listed_of}
use Rattle.plan_table.specs.Opened.{step_of}
use Rattle.plan_values.specs.Values.{own_name}
use Rattle.plan_values.proofs.SiteLemmas.{one_listed}
use Rattle.plan_values.proofs.NameLemmas.{named_under, named_stops, named_alone}
use Rattle.plan_values.proofs.ValueLemmas.{spot_there, name_shown}
use Rattle.plan_values.proofs.names.name_told.Goals as goal

pub listed_at-requires-clause-there : goal.listed_at-requires-clause-there
listed_at-requires-clause-there c = spot_there c.args.register.now.table c.args.frame c.requires.spot.there

pub listed_at-requires-clause-number : goal.listed_at-requires-clause-number
listed_at-requires-clause-number c = c.requires.spot.declared.0

pub name_above-requires-clause-there : goal.name_above-requires-clause-there
name_above-requires-clause-there c = spot_there c.args.register.now.table c.args.frame c.requires.spot.there

pub returns-in-Ok : goal.returns-in-Ok
returns-in-Ok c =
    let t = c.args.register.now.table in
    let h = spot_there t c.args.frame c.requires.spot.there in
    let n = c.requires.spot.declared.0 in
    let is = one_listed t c.args.frame c.args.instance.resource n (listed_of c.listed_at.result.now)
    c.listed_at.ensures in
    let own = c.own_name.ensures n.listed n.has in
    name_shown t c.args.frame c.requires.complete.ready h c.args.instance.resource n n.listed refl c.child_name.result
    c.args.instance.copy
    (named_under t c.args.frame (step_of c.args.instance) n.listed (above_of c.in-Some.parent) json
    c.child_name.result (json c.in-Ok.up.now)
    (ap (λ (z : Listed). z.above) is ∙ ap (option_map above_of) c.in-Some.is) c.in-Ok.ensures
    (c.child_name.ensures t (own_name t c.args.frame (step_of c.args.instance) n.listed) own))

pub returns-in-Err : goal.returns-in-Err
returns-in-Err c =
    let t = c.args.register.now.table in
    let h = spot_there t c.args.frame c.requires.spot.there in
    let n = c.requires.spot.declared.0 in
    let is = one_listed t c.args.frame c.args.instance.resource n (listed_of c.listed_at.result.now)
    c.listed_at.ensures in
    name_shown t c.args.frame c.requires.complete.ready h c.args.instance.resource n n.listed refl (Err c.in-Err.lack)
    c.args.instance.copy
    (named_stops t c.args.frame (step_of c.args.instance) n.listed (above_of c.in-Some.parent) c.in-Err.lack
    (ap (λ (z : Listed). z.above) is ∙ ap (option_map above_of) c.in-Some.is) c.in-Err.ensures)

pub returns-in-None : goal.returns-in-None
returns-in-None c =
    let t = c.args.register.now.table in
    let h = spot_there t c.args.frame c.requires.spot.there in
    let n = c.requires.spot.declared.0 in
    let is = one_listed t c.args.frame c.args.instance.resource n (listed_of c.listed_at.result.now)
    c.listed_at.ensures in
    name_shown t c.args.frame c.requires.complete.ready h c.args.instance.resource n n.listed refl
    c.own_name-in-None.result
    c.args.instance.copy
    (named_alone json t c.args.frame (step_of c.args.instance) n.listed c.own_name-in-None.result
    (ap (λ (z : Listed). z.above) is ∙ ap (option_map above_of) c.in-None.is) (c.own_name-in-None.ensures n.listed
    n.has))
