use Rattle.std.proofs.Common.{sym, subst}
use Rattle.arm_value.specs.View.{json}
use Rattle.arm_eval.specs.Trees.{tree_value}
use Rattle.plan_cells.specs.Resources.{Listed}
use Rattle.plan_cells.specs.Sites.{name_site, reading_at}
use Rattle.plan_sight.specs.Ready.{told_in}
use Rattle.plan_sight.specs.Seen.{Yields}
use Rattle.plan_table.specs.Listed.{listed_of}
use Rattle.plan_table.specs.Opened.{step_of}
use Rattle.plan_table.specs.Found.{scope_at}
use Rattle.plan_table.specs.Whole.{whole_of}
use Rattle.plan_values.proofs.SiteLemmas.{two_listed}
use Rattle.plan_values.proofs.ValueLemmas.{spot_there}
use Rattle.plan_values.proofs.names.own_name.Goals as goal

pub listed_at-requires-clause-there : goal.listed_at-requires-clause-there
listed_at-requires-clause-there c = spot_there c.args.register.now.table c.args.frame c.requires.spot.there

pub listed_at-requires-clause-number : goal.listed_at-requires-clause-number
listed_at-requires-clause-number c = c.requires.spot.declared.0

pub told_in_instance-requires-clause-there : goal.told_in_instance-requires-clause-there
told_in_instance-requires-clause-there c = spot_there c.args.register.now.table c.args.frame c.requires.spot.there

pub told_in_instance-requires-clause-number : goal.told_in_instance-requires-clause-number
told_in_instance-requires-clause-number c = c.requires.spot.declared.0

pub told_in_instance-requires-clause-copy : goal.told_in_instance-requires-clause-copy
told_in_instance-requires-clause-copy c = c.requires.spot.declared.1

pub returns : goal.returns
returns c =
    λ x has.
    let t = c.args.register.now.table in
    let same = two_listed t c.args.frame c.args.instance.resource x (listed_of c.listed_at.result.now) has
    c.listed_at.ensures in
    subst (λ (z : Listed). Yields json t c.told_in_instance.result (told_in t (reading_at (whole_of t).template
    t.place.now (name_site (whole_of t).template (scope_at t c.args.frame).position (step_of c.args.instance))
    (tree_value (json z.declaration.name))))) (sym same) c.told_in_instance.ensures
