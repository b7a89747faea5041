use Rattle.std.proofs.Common.{subst}
use Rattle.arm_value.specs.View.{json}
use Rattle.plan_sight.specs.Ready.{told_in}
use Rattle.plan_sight.specs.Seen.{Yields}
use Rattle.plan_table.specs.Whole.{whole_of}
use Rattle.plan_values.proofs.NameLemmas.{under_made, under_stops}
use Rattle.plan_values.proofs.names.child_name.Goals as goal

pub returns-in-Ok-name_under : goal.returns-in-Ok-name_under
returns-in-Ok-name_under c =
    λ t r h.
    under_made t r (json c.args.up.now) c.in-Ok.own c.in-Ok-name_under.full
    (subst (λ o. Yields json t o (told_in t r)) c.in-Ok.is h) (c.in-Ok-name_under.ensures (whole_of t))

pub returns-in-Err : goal.returns-in-Err
returns-in-Err c =
    λ t r h.
    under_stops t r (json c.args.up.now) c.in-Err.lack (subst (λ o. Yields json t o (told_in t r)) c.in-Err.is h)
