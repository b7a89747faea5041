use Rattle.std.proofs.Common.{subst}
use Rattle.arm_value.specs.View.{json}
use Rattle.arm_eval.specs.Trees.{tree_value}
use Rattle.deploy_cells.specs.Cells.{step}
use Rattle.plan_cells.specs.Sites.{reading_at}
use Rattle.plan_table.specs.Whole.{whole_of}
use Rattle.plan_sight.specs.Ready.{told_in}
use Rattle.plan_sight.specs.Seen.{Yields}
use Rattle.plan_values.specs.Sources.{texts_in}
use Rattle.plan_values.proofs.SiteLemmas.{body_site_is}
use Rattle.plan_needs.proofs.InstanceLemmas.{few}
use Rattle.plan_elements.proofs.elements.element_told.Goals as goal

pub texts_at-texts-requires : goal.texts_at-texts-requires
texts_at-texts-requires c = c.requires.instance.there

pub told_in_instance-requires-clause-there : goal.told_in_instance-requires-clause-there
told_in_instance-requires-clause-there c = c.requires.instance.there

pub told_in_instance-requires-clause-number : goal.told_in_instance-requires-clause-number
told_in_instance-requires-clause-number c = c.requires.instance.number

pub told_in_instance-requires-clause-copy : goal.told_in_instance-requires-clause-copy
told_in_instance-requires-clause-copy c =
    few c.args.register.now.table c.args.opener.frame c.args.opener.resource c.args.opener.copy c.requires.table
    c.requires.instance

pub returns : goal.returns
returns c =
    let t = c.args.register.now.table in
    let x = c.args.opener in
    subst (λ e. Yields json t c.told_in_instance.result (told_in t (reading_at (whole_of t).template t.place.now e
    (tree_value (json c.args.tree.now)))))
    (body_site_is t x.frame c.requires.complete.ready c.requires.instance.there (step x.resource x.copy)
    (texts_in c.texts_at-texts.result) c.texts_at-texts.ensures) c.told_in_instance.ensures
