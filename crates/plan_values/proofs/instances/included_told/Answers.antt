use Rattle.std.proofs.Common.{subst, ap}
use Rattle.std.specs.Prelude.{option_map}
use Rattle.arm_value.specs.View.{json}
use Rattle.arm_eval.specs.Trees.{tree_value}
use Rattle.plan_cells.specs.Sites.{reading_at}
use Rattle.plan_sight.specs.Ready.{told_in}
use Rattle.plan_sight.specs.Seen.{Yields}
use Rattle.plan_table.specs.Listed.{listed_of}
use Rattle.plan_table.specs.Opened.{step_of}
use Rattle.plan_table.specs.Whole.{whole_of}
use Rattle.plan_telling.specs.Sources.{texts_in}
use Rattle.plan_values.proofs.SiteLemmas.{one_listed, condition_site_is}
use Rattle.plan_values.proofs.ValueLemmas.{spot_there, included_if, included_always}
use Rattle.plan_values.proofs.instances.included_told.Goals as goal

pub listed_at-requires-clause-there : goal.listed_at-requires-clause-there
listed_at-requires-clause-there c = spot_there c.args.register.now.table c.args.frame c.requires.spot.there

pub listed_at-requires-clause-number : goal.listed_at-requires-clause-number
listed_at-requires-clause-number c = c.requires.spot.declared.0

pub early_texts_at-texts-requires : goal.early_texts_at-texts-requires
early_texts_at-texts-requires c = spot_there c.args.register.now.table c.args.frame c.requires.spot.there

pub told_in_instance-requires-clause-there : goal.told_in_instance-requires-clause-there
told_in_instance-requires-clause-there c = spot_there c.args.register.now.table c.args.frame c.requires.spot.there

pub told_in_instance-requires-clause-number : goal.told_in_instance-requires-clause-number
told_in_instance-requires-clause-number c = c.requires.spot.declared.0

pub told_in_instance-requires-clause-copy : goal.told_in_instance-requires-clause-copy
told_in_instance-requires-clause-copy c = c.requires.spot.declared.1

pub returns-in-Some : goal.returns-in-Some
returns-in-Some c =
    let t = c.args.register.now.table in
    let h = spot_there t c.args.frame c.requires.spot.there in
    let n = c.requires.spot.declared.0 in
    included_if t c.args.frame c.requires.complete.ready h c.args.instance.resource n
    (listed_of c.listed_at.result.now)
    (one_listed t c.args.frame c.args.instance.resource n (listed_of c.listed_at.result.now) c.listed_at.ensures)
    c.told_in_instance.result c.args.instance.copy (json c.in-Some.tree) (ap (option_map json) c.in-Some.is)
    (subst (λ e. Yields json t c.told_in_instance.result (told_in t (reading_at (whole_of t).template t.place.now e
    (tree_value (json c.in-Some.tree)))))
    (condition_site_is t c.args.frame c.requires.complete.ready h (step_of c.args.instance)
    (texts_in c.early_texts_at-texts.result) c.early_texts_at-texts.ensures) c.told_in_instance.ensures)

pub returns-in-None : goal.returns-in-None
returns-in-None c =
    let t = c.args.register.now.table in
    let h = spot_there t c.args.frame c.requires.spot.there in
    let n = c.requires.spot.declared.0 in
    included_always t c.args.frame c.requires.complete.ready h c.args.instance.resource n
    (listed_of c.listed_at.result.now)
    (one_listed t c.args.frame c.args.instance.resource n (listed_of c.listed_at.result.now) c.listed_at.ensures)
    c.args.instance.copy (ap (option_map json) c.in-None.is)
