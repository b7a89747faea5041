use Rattle.bicep_surroundings.proofs.SeenLemmas.{item_seen, index_seen}
use Rattle.bicep_surroundings.proofs.names.named.Goals as goal

pub returns-in-Item : goal.returns-in-Item
returns-in-Item g c =
    let s = g.K.Surroundings.sight c.args.around.now in
    rw c.in-Item.is
    (λ fs h. item_seen s c.args.turns.now fs c.in-Item.outwards c.item_of.result h c.item_of.ensures)

pub returns-in-Index : goal.returns-in-Index
returns-in-Index g c =
    let s = g.K.Surroundings.sight c.args.around.now in
    rw c.in-Index.is
    (λ fs h. index_seen s c.args.turns.now fs c.in-Index.outwards c.index_of.result h c.index_of.ensures)
