use Rattle.plan_places.proofs.NameLemmas.{at_root, at_inside, around_within, around_named, some_there}
use Rattle.plan_places.proofs.place.place_at.Goals as goal

pub returns-then-position-eq0 : goal.returns-then-position-eq0
returns-then-position-eq0 c =
    at_root c.args.table.now c.args.frame c.requires.ready c.requires.there c.index-scope.result.now
    c.index-scope.ensures
    c.as_slice-position.result.now c.as_slice-position.ensures.value c.root_place.result c.if-position-eq0.true
    c.root_place.ensures

pub place_inside-requires-clause-there : goal.place_inside-requires-clause-there
place_inside-requires-clause-there c =
    around_within c.args.table.now c.args.frame c.requires.ready c.requires.there c.index-scope.result.now
    c.index-scope.ensures c.as_slice-position.result.now c.as_slice-position.ensures.value c.first_of.result.now
    c.if-position-eq0.false c.first_of.ensures

pub place_inside-requires-clause-named : goal.place_inside-requires-clause-named
place_inside-requires-clause-named c =
    around_named c.args.table.now c.args.frame c.requires.ready c.requires.there c.index-scope.result.now
    c.index-scope.ensures c.as_slice-position.result.now c.as_slice-position.ensures.value c.first_of.result.now
    c.if-position-eq0.false c.first_of.ensures

pub returns-else-position-eq0 : goal.returns-else-position-eq0
returns-else-position-eq0 c =
    at_inside c.args.table.now c.args.frame c.requires.ready c.requires.there c.index-scope.result.now
    c.index-scope.ensures c.as_slice-position.result.now c.as_slice-position.ensures.value c.first_of.result.now
    c.if-position-eq0.false c.first_of.ensures c.place_inside.result c.place_inside.ensures

pub first_of-requires : goal.first_of-requires
first_of-requires c = some_there c.as_slice-position.result.now c.if-position-eq0.false
