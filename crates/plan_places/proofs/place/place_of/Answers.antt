use Rattle.plan_sight.proofs.LookLemmas.{owner_within}
use Rattle.plan_places.proofs.NameLemmas.{of_owner}
use Rattle.plan_places.proofs.place.place_of.Goals as goal

pub place_at-requires-clause-there : goal.place_at-requires-clause-there
place_at-requires-clause-there c =
    owner_within c.args.table.now c.args.frame c.index.result.now c.requires.ready c.requires.there c.index.ensures

pub returns : goal.returns
returns c =
    of_owner c.args.table.now c.args.frame c.index.result.now c.place_at.result c.requires.ready c.requires.there
    c.index.ensures c.place_at.ensures
