use Rattle.emitted_needs.proofs.ChildLemmas.{child_forth, child_back}
use Rattle.emitted_needs.proofs.OrderLemmas.{order_forth, order_back}
use Rattle.emitted_needs.proofs.laws.order_is_the_same.Goals as goal

pub returns : goal.returns
returns c = λ r i t u v a b e h. (
  λ k. order_forth r i t (child_forth t) u v a b e h k,
  λ k. order_back r i t (child_back t) u v a b e h k,
)
