use Rattle.plan_names.proofs.GatherLemmas.{existing_gathers, number_of}
use Rattle.plan_names.proofs.gather.gather_resource.Goals as goal

pub returns-then-index : goal.returns-then-index
returns-then-index c =
    λ x has.
    existing_gathers c.args.table.now c.args.asked.text.now c.args.asked.place.now c.args.frame c.args.number
    c.index.result.now c.index-2.result.now x c.requires.there c.index.ensures c.requires.resource c.index-2.ensures
    has c.if-index.true c.args.keys.now.items

pub gather_counted-requires-clause-number : goal.gather_counted-requires-clause-number
gather_counted-requires-clause-number c =
    number_of c.args.table.now c.args.frame c.args.number c.index.result.now c.index-2.result.now c.requires.there
    c.index.ensures c.requires.resource c.index-2.ensures c.if-index.false
