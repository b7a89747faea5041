use Rattle.tag_needs.proofs.NumberLemmas.{found_all}
use Rattle.tag_needs.proofs.needs.find_needed.Goals as goal

pub returns : goal.returns
returns c =
    found_all c.args.numbers.now c.new-found.result c.add_all.new.found c.in_ok-tags.tags c.args.asks.now
    c.new-found.ensures.empty c.in_ok-tags.ensures c.in_ok-add_all.ensures
