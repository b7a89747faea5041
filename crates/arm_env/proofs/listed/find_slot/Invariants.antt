use Rattle.std.proofs.Common.{◌≡◌, drop}
use Rattle.arm_value.specs.Look.{fold}
use Rattle.arm_env.specs.Known.{slot_named}
use Rattle.arm_env.proofs.listed.find_slot.Given as goal

abbrev pub invariant-loop-entry : goal.invariant-loop-entry
invariant-loop-entry l = slot_named (fold l.name) (drop l.entry-index l.named)
    ≡ slot_named (fold l.name) l.named
