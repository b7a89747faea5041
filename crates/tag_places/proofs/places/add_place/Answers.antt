use Rattle.tag_places.proofs.PlaceLemmas.{has_place}
use Rattle.std.proofs.Common.{◌∙◌, sym}
use Rattle.tag_places.proofs.places.add_place.Goals as goal

pub returns-in-Some-clause-added : goal.returns-in-Some-clause-added
returns-in-Some-clause-added c = λ os h p.
    has_place c.args.places.now os c.args.tag c.in-Some.field-0 h (sym (c.first_place.ensures os h) ∙ c.in-Some.is)
