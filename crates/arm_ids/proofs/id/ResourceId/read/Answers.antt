use Rattle.std.proofs.Common.{chars, sym, ap, ◌∙◌}
use Rattle.arm_ids.specs.Id.{reading_of}
use Rattle.arm_ids.proofs.IdLemmas.{id_from_reading}
use Rattle.arm_ids.proofs.id.ResourceId.read.Goals as goal

pub returns-in-Some-clause-is_id : goal.returns-in-Some-clause-is_id
returns-in-Some-clause-is_id c =
    id_from_reading (chars c.args.id.now) c.in-Some.id
    (ap reading_of (sym c.in_ok-segments.ensures ∙ sym c.as_slice.ensures) ∙ sym c.in_ok-id.ensures
    ∙ c.in-Some.is)
