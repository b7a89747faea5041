use Rattle.std.proofs.Common.{sym, ap, subst, ◌∙◌, length}
use Rattle.arm_env.specs.Look.{a_key}
use Rattle.plan_sight.specs.Seen.{Shows}
use Rattle.plan_names.proofs.LookLemmas.{by_none, by_some, by_stop}
use Rattle.plan_names.proofs.look.look_named.Goals as goal

pub returns-then-listed-eq0 : goal.returns-then-listed-eq0
returns-then-listed-eq0 c =
    subst (Shows (λ k. a_key k) c.args.table.now c.look_around.result)
    (sym (by_none c.args.table.now c.args.frame c.args.text.now c.args.place.now c.requires.ready c.requires.there
    c.in-Ok.keys.items c.in-Ok.ensures (ap length (sym c.as_slice-listed.ensures.value) ∙ c.if-listed-eq0.true)))
    c.look_around.ensures

pub returns-in-Ok : goal.returns-in-Ok
returns-in-Ok c =
    subst (Shows (λ k. a_key k) c.args.table.now c.only_key.result)
    (sym (by_some c.args.table.now c.args.frame c.args.text.now c.args.place.now c.requires.ready c.requires.there
    c.in-Ok.keys.items c.as_slice-listed.result.now c.as_slice-listed.ensures.value c.in-Ok.ensures
    (λ e. c.if-listed-eq0.false (ap length c.as_slice-listed.ensures.value ∙ e))))
    (c.only_key.ensures c.args.table.now)

pub returns : goal.returns
returns c =
    by_stop c.args.table.now c.args.frame c.args.text.now c.args.place.now c.requires.ready c.requires.there
    c.in-Err.lack c.in-Err.ensures
