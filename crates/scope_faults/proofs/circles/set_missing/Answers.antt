use Rattle.std.proofs.Common.{refl}
use Rattle.point_rows.specs.declared.later.Entry.TheVariants.{Missing}
use Rattle.scope_faults.proofs.CircleLemmas.{set_begins}
use Rattle.scope_faults.proofs.circles.set_missing.Goals as goal

pub each-init : goal.each-init
each-init c = record {
  left = set_begins Missing c.args.lines.now c.args.later.now.entries.items;
  long = refl;
  states = refl;
  places = refl;
}
