use Rattle.std.proofs.Common.{◌≡◌, drop, length}
use Rattle.bicep_program.specs.Graphs.{with_needs}
use Rattle.bicep_circles.proofs.graph.add_needs.Given as goal

abbrev pub invariant-loop-need : goal.invariant-loop-need
invariant-loop-need l = record {
  needs : with_needs l.graph l.node (drop l.need-index l.needs) ≡ with_needs l.initial.graph l.node l.needs;
  size : length l.graph.needs ≡ length l.initial.graph.needs;
}
