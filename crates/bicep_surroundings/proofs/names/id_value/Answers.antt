use Rattle.arm_ids.specs.Id.{text_of}
use Rattle.bicep_surroundings.proofs.names.id_value.Goals as goal

pub returns-in-Ok : goal.returns-in-Ok
returns-in-Ok c = rw c.in-Ok.is (c.text_value.ensures (text_of c.in-Ok.id) c.text-text.ensures.text)
