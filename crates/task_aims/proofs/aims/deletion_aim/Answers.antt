use Rattle.std.proofs.Common.{refl, sym, ap, ◌∙◌}
use Rattle.std.specs.Prelude.{option_map}
use Rattle.arm_ids.specs.Id.{folded_text}
use Rattle.arm_ids.specs.Held.{find}
use Rattle.arm_ids.specs.Entry.{as_held}
use Rattle.task_aims.proofs.AimLemmas.{deleted_so}
use Rattle.task_aims.proofs.aims.deletion_aim.Goals as goal

pub returns : goal.returns
returns c =
    deleted_so (find (folded_text c.args.key.now) c.args.held.now) (as_held c.in-Some.entry.now)
    c.in-Some.entry.now.id (sym c.find.ensures ∙ ap (option_map (λ e. as_held e.now)) c.in-Some.is) refl
    c.deletion_of.result c.deletion_of.ensures
