use Rattle.arm_value.specs.View.{json}
use Rattle.reading.specs.Knowledge.{told}
use Rattle.arm_env.specs.Sight.{here}
use Rattle.arm_env.proofs.Answers.{outcome_gives}
use Rattle.arm_eval.specs.Trees.{tree_value}
use Rattle.arm_eval.proofs.NestLemmas.{nests_in_outcome}
use Rattle.arm_eval.proofs.outputs.tree_outcome.Goals as goal

pub returns-clause-value : goal.returns-clause-value
returns-clause-value g c =
    let p = g.K.Entries.known c.args.entries.now in
    rw c.outcome.ensures
    (outcome_gives json c.tree_value.result (told p (tree_value (json c.args.tree.now) (here c.args.around.now)))
    c.tree_value.ensures)

pub returns-clause-nests : goal.returns-clause-nests
returns-clause-nests g c =
    rw c.outcome.ensures
    (nests_in_outcome (g.K.Entries.known c.args.entries.now) (here c.args.around.now)
    (json c.args.tree.now) c.tree_value.result
    c.tree_value.ensures)
