use Rattle.std.proofs.Common.{map}
use Rattle.bicep_circles.proofs.LinkLemmas.{items_of, graph_is}
use Rattle.bicep_circles.proofs.OrderLemmas.{all_sorted}
use Rattle.bicep_circles.proofs.order.order_among.Goals as goal

pub returns : goal.returns
returns c = λ whole e.
    all_sorted c.order.result c.in_ok-graph.graph (map items_of c.args.lists.now) whole e
    (graph_is c.args.lists.now c.in_ok-graph.graph c.in_ok-graph.ensures) c.order.ensures
