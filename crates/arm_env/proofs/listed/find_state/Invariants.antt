use Rattle.std.proofs.Common.{◌≡◌, drop}
use Rattle.arm_env.specs.Known.{seen_at}
use Rattle.arm_env.proofs.listed.find_state.Given as goal

abbrev pub invariant-loop-state : goal.invariant-loop-state
invariant-loop-state l = seen_at l.key (drop l.state-index l.states) ≡ seen_at l.key l.states
