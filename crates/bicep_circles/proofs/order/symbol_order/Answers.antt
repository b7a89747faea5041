use Rattle.std.proofs.Common.{◌∙◌, map, ap}
use Rattle.bicep_declared.specs.View.{declared_tree}
use Rattle.bicep_circles.specs.Links.{links}
use Rattle.bicep_circles.specs.Nodes.{all_below}
use Rattle.bicep_circles.proofs.LinkLemmas.{items_of, all_within}
use Rattle.bicep_circles.proofs.order.symbol_order.Goals as goal

pub order_among-requires-clause-within : goal.order_among-requires-clause-within
order_among-requires-clause-within c =
    all_within c.as_slice-2.result.now (map items_of c.as_slice.result.now)
    (ap (map items_of) c.as_slice-2.ensures.value ∙ c.in_ok-lists.ensures)

pub returns : goal.returns
returns c =
    c.order_among.ensures (links (map (λ e. e.kind) c.args.entries.now) (map declared_tree c.args.declarations.now))
    (ap (map items_of) c.as_slice-2.ensures.value ∙ c.in_ok-lists.ensures
    ∙ ap all_below (ap (map items_of) c.as_slice.ensures.value ∙ c.in_ok-mentions.ensures))
