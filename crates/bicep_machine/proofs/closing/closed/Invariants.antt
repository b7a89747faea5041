use Rattle.std.proofs.Common.{◌≡◌, vec_len}
use Rattle.bicep_machine.specs.Closing.{closed}
use Rattle.bicep_machine.specs.Views.{kept, frames_of}
use Rattle.bicep_machine.proofs.closing.closed.Given as goal

abbrev pub invariant-loop-frame : goal.invariant-loop-frame
invariant-loop-frame l = closed 64 l.level (kept l.whole) (frames_of l.stack.items) ≡ closed 64 l.level
    (kept l.initial.whole) (frames_of l.initial.stack.items)

abbrev pub decreases-loop-frame : goal.decreases-loop-frame
decreases-loop-frame l = vec_len l.stack
