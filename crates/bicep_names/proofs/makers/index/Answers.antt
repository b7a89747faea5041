use Rattle.bicep_resolved.specs.View.{source_of}
use Rattle.bicep_found.proofs.FoundLemmas.{pair_gives, pair_err}
use Rattle.bicep_names.proofs.makers.index.Goals as goal

pub returns-in-Ok : goal.returns-in-Ok
returns-in-Ok c =
    λ f g p q.
    pair_gives source_of source_of source_of _ _ _ c.in-Ok.whole c.in-Ok.index f g _ c.in-Ok.ensures p q
    c.indexed.ensures

pub returns-in-Err : goal.returns-in-Err
returns-in-Err c = λ f g p q. pair_err source_of source_of source_of _ _ _ c.in-Err.stop f g c.in-Err.ensures p q
