use Rattle.std.proofs.Common.{map}
use Rattle.bicep_program.specs.Program.{links_of, program_file}
use Rattle.bicep_program.proofs.FileLemmas.{graph_is, circle_found, circle_none}
use Rattle.bicep_program.proofs.circles.circle_among.Goals as goal

pub returns-clause-circle : goal.returns-clause-circle
returns-clause-circle c =
    circle_found c.cycle.result c.in_ok-graph.graph (links_of (map program_file c.args.files.now))
    (graph_is c.args.files.now c.in_ok-graph.graph c.in_ok-graph.ensures) c.cycle.ensures.circle

pub returns-clause-none : goal.returns-clause-none
returns-clause-none c =
    circle_none c.cycle.result c.in_ok-graph.graph (links_of (map program_file c.args.files.now))
    (graph_is c.args.files.now c.in_ok-graph.graph c.in_ok-graph.ensures) c.cycle.ensures.none
