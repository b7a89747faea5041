use Rattle.std.proofs.Common.{arith}
use Rattle.driver_fakes.specs.ScriptedDealers.{hand_of}
use Rattle.driver_fakes.proofs.DealingLemmas.{one_is_begun, none_is_begun}
use Rattle.driver_fakes.proofs.scripted_dealer.ScriptedDealer.pause.Goals as goal

pub returns-then-self-gt0 : goal.returns-then-self-gt0
returns-then-self-gt0 c =
    let d = c.args.self.now in
    one_is_begun (hand_of d) d.stages.items d.low d.stages_are d.sizes d.low_done
    (omega (arith, d.counted, c.if-self-gt0.true))

pub returns-else-self-gt0 : goal.returns-else-self-gt0
returns-else-self-gt0 c =
    let d = c.args.self.now in
    none_is_begun (hand_of d) d.stages.items d.low d.stages_are d.sizes d.low_done
    (omega (arith, d.counted, c.if-self-gt0.false))
