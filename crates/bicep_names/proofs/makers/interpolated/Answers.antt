use Rattle.bicep_resolved.specs.View.{source_of}
use Rattle.bicep_names.specs.Parts.{pieces_of}
use Rattle.bicep_found.proofs.FoundLemmas.{one_gives, one_err}
use Rattle.bicep_names.proofs.makers.interpolated.Goals as goal

pub returns-in-Ok : goal.returns-in-Ok
returns-in-Ok c = λ f p. one_gives pieces_of source_of _ _ c.in-Ok.pieces f _ c.in-Ok.is p c.text_with.ensures

pub returns-in-Err : goal.returns-in-Err
returns-in-Err c = λ f p. one_err pieces_of source_of _ _ c.in-Err.stop f c.in-Err.is p
