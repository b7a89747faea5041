use Rattle.bicep_resolved.specs.View.{source_of, piece_of}
use Rattle.bicep_found.proofs.FoundLemmas.{one_gives, one_err}
use Rattle.bicep_names.proofs.makers.piece.Goals as goal

pub returns-in-Ok : goal.returns-in-Ok
returns-in-Ok c = λ f p. one_gives source_of piece_of _ _ c.in-Ok.value f _ c.in-Ok.is p c.piece_with.ensures

pub returns-in-Err : goal.returns-in-Err
returns-in-Err c = λ f p. one_err source_of piece_of _ _ c.in-Err.stop f c.in-Err.is p
