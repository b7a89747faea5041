use Rattle.tag_places.proofs.PlaceLemmas.{new_place}
use Rattle.tag_places.proofs.places.insert_place.Goals as goal

pub returns-clause-added : goal.returns-clause-added
returns-clause-added c = λ os h p e.
    new_place c.args.places.now c.insert.new.self os c.args.tag c.args.place h p e c.in_ok-insert.ensures.updates
