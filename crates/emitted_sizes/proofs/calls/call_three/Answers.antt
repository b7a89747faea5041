use Rattle.arm_expr.specs.Tree.{none}
use Rattle.emitted_parts.specs.Emitted.{one, two, three}
use Rattle.emitted_sizes.proofs.calls.call_three.Goals as goal

pub returns : goal.returns
returns c =
    λ name a b d n i j k. c.call.ensures name (three a b d) n
    (c.end.ensures (three a b d)
    (c.with-3.ensures d none (three a b d) k
    (c.with-2.ensures b (one d) (three a b d) j
    (c.with.ensures a (two b d) (three a b d) i (c.new.ensures (three a b d))))))
