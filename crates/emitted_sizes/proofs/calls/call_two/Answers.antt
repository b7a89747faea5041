use Rattle.arm_expr.specs.Tree.{none}
use Rattle.emitted_parts.specs.Emitted.{one, two}
use Rattle.emitted_sizes.proofs.calls.call_two.Goals as goal

pub returns : goal.returns
returns c =
    λ name a b n i j. c.call.ensures name (two a b) n
    (c.end.ensures (two a b)
    (c.with-2.ensures b none (two a b) j (c.with.ensures a (one b) (two a b) i (c.new.ensures (two a b)))))
