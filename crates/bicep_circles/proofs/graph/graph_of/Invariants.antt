use Rattle.std.proofs.Common.{◌≡◌, drop, length, map}
use Rattle.bicep_program.specs.Graphs.{with_links, unlinked}
use Rattle.bicep_circles.proofs.LinkLemmas.{items_of}
use Rattle.bicep_circles.proofs.graph.graph_of.Given as goal

abbrev pub invariant-loop-node : goal.invariant-loop-node
invariant-loop-node l = record {
  links : with_links l.graph l.node (map items_of (drop l.node l.lists))
      ≡ with_links (unlinked (length l.lists)) 0 (map items_of l.lists);
  size : length l.graph.needs ≡ length l.lists;
}
