use Rattle.std.proofs.Common.{◌∙◌, sym}
use Rattle.lock_rules.proofs.SearchLemmas.{above_more, found_equal, found_less, found_none}
use Rattle.lock_rules.proofs.searching.search.Goals as goal

pub loop-i-preserved : goal.loop-i-preserved
loop-i-preserved c =
    above_more c.args.place.now c.args.places.now c.loop-i.i c.index-places-i.result c.loop-i-test.true
    c.index-places-i.is c.loop-i.invariant (sym c.compare.ensures ∙ c.in-Greater.is)

pub returns-in-Less : goal.returns-in-Less
returns-in-Less c =
    found_less c.args.place.now c.args.places.now c.loop-i.i c.index-places-i.result c.loop-i-test.true
    c.index-places-i.is c.loop-i.invariant (sym c.compare.ensures ∙ c.in-Less.is)

pub returns-in-Equal : goal.returns-in-Equal
returns-in-Equal c =
    found_equal c.args.place.now c.args.places.now c.loop-i.i c.index-places-i.result c.loop-i-test.true
    c.index-places-i.is c.loop-i.invariant (sym c.compare.ensures ∙ c.in-Equal.is)

pub returns : goal.returns
returns c =
    found_none c.args.place.now c.args.places.now c.loop-i.i c.loop-i-test.false c.loop-i.invariant
