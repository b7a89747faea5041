use Rattle.std.proofs.Common.{length, ap, arith}
use Rattle.depend_graph.specs.Shape.{Shape}
use Rattle.depend_graph.proofs.Walking.{all_marked}
use Rattle.depend_graph.proofs.graph.Graph.order.Goals as goal

pub first_left-requires : goal.first_left-requires
first_left-requires c =
    omega (
      arith,
      ap length c.deref.ensures.value,
      c.in_ok-done.ensures.size,
      c.self.invariant.few,
      ap (λ (s : Shape). length s.needs) c.self.view_is,
    )

pub returns : goal.returns
returns c =
    let all = rw c.deref.ensures.value at c.in-None.ensures.none in
    record {
      counted =
          omega (
            arith,
            c.in_ok-done.ensures.size,
            c.in_ok-done.ensures.order.counted,
            all_marked c.in_ok-done.done.items all,
          );
      nodes = c.in_ok-done.ensures.order.nodes;
      in_turn = c.in_ok-done.ensures.order.in_turn;
      all = λ u within. c.in_ok-done.ensures.order.among u (all u (omega (arith, c.in_ok-done.ensures.size, within)));
    }
