use Rattle.std.proofs.Common.{length, arith, ap}
use Rattle.arm_ids.proofs.FrontLemmas.{front_short}
use Rattle.arm_ids.proofs.segment.is_front.Goals as goal

pub returns-then-front-whole : goal.returns-then-front-whole
returns-then-front-whole c =
    front_short c.args.front.now c.args.whole.now
    (omega (arith, ap length c.as_slice-front.ensures, ap length c.as_slice-whole.ensures))
