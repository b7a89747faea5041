use Rattle.std.proofs.Common.{◌≡◌, drop, length, map}
use Rattle.bicep_program.specs.Program.{links_of, program_file}
use Rattle.bicep_program.specs.Graphs.{with_links, unlinked}
use Rattle.bicep_program.proofs.circles.graph_of.Given as goal

abbrev pub invariant-loop-node : goal.invariant-loop-node
invariant-loop-node l = record {
  links : with_links l.graph l.node (links_of (map program_file (drop l.node l.files)))
      ≡ with_links (unlinked (length l.files)) 0 (links_of (map program_file l.files));
  size : length l.graph.needs ≡ length l.files;
}
