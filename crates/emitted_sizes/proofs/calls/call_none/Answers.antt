use Rattle.arm_expr.specs.Tree.{none}
use Rattle.emitted_sizes.proofs.calls.call_none.Goals as goal

pub returns : goal.returns
returns c =
    λ name n. c.call.ensures name none n (c.end.ensures none (c.new.ensures none))
