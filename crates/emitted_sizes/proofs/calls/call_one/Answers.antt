use Rattle.arm_expr.specs.Tree.{none}
use Rattle.emitted_parts.specs.Emitted.{one}
use Rattle.emitted_sizes.proofs.calls.call_one.Goals as goal

pub returns : goal.returns
returns c =
    λ name a n i. c.call.ensures name (one a) n
    (c.end.ensures (one a) (c.with.ensures a none (one a) i (c.new.ensures (one a))))
