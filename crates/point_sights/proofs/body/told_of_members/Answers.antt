use Rattle.std.proofs.Common.{subst}
use Rattle.arm_value.specs.View.{json}
use Rattle.arm_eval.specs.Trees.{tree_value}
use Rattle.plan_cells.specs.Meaning.{bodies}
use Rattle.plan_cells.specs.Sites.{reading_at, body_site}
use Rattle.plan_table.specs.Opened.{step_of}
use Rattle.plan_table.specs.Whole.{whole_of}
use Rattle.plan_table.specs.Found.{scope_at}
use Rattle.plan_sight.specs.Seen.{Yields}
use Rattle.plan_telling.specs.Sources.{texts_in}
use Rattle.plan_values.proofs.SiteLemmas.{body_site_is}
use Rattle.point_rows.specs.Rows.{told_now}
use Rattle.point_sights.proofs.BodyLemmas.{shown, body_is, members_read}
use Rattle.point_sights.proofs.body.told_of_members.Goals as goal

pub returns-in-Ok : goal.returns-in-Ok
returns-in-Ok c =
    let t = c.args.register.now.table in
    let l = c.args.later.now in
    let f = c.args.frame in
    let s = step_of c.args.instance in
    let n = c.requires.number in
    let ready = c.requires.complete.ready in
    shown t l json c.told_in_instance-told.result (bodies (whole_of t) (scope_at t f).position s)
    (members_read t f ready c.requires.there s n c.args.members.now)
    (body_is t f ready c.requires.there s n c.args.members.now (c.requires.members n.listed n.has))
    (subst (λ v. Yields json t c.told_in_instance-told.result (told_now t l (reading_at (whole_of t).template
    t.place.now
    (body_site (whole_of t).template (scope_at t f).position s) (tree_value v)))) c.in-Ok.ensures
    (subst (λ e. Yields json t c.told_in_instance-told.result (told_now t l (reading_at (whole_of t).template
    t.place.now
    e (tree_value (json c.in-Ok.tree)))))
    (body_site_is t f ready c.requires.there s (texts_in c.texts_at-texts.result) c.texts_at-texts.ensures)
    c.told_in_instance-told.ensures))
