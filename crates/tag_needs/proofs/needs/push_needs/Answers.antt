use Rattle.std.proofs.Common.{◌∙◌, ap, ◌++◌}
use Rattle.tag_needs.specs.Tags.{pairs_of}
use Rattle.tag_needs.proofs.NumberLemmas.{needed_is}
use Rattle.tag_needs.proofs.needs.push_needs.Goals as goal

pub returns : goal.returns
returns c = λ tags a.
    c.in_ok-push_pairs.ensures.listed
    ∙ ap (λ ks. c.args.pairs.now.items ++ pairs_of c.args.number ks)
    (needed_is c.args.numbers.now tags _ c.in_ok-needs.needs a c.in_ok-needs.ensures c.push_pairs.ensures.rising)
