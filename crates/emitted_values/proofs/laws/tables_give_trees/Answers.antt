use Rattle.filled_tables.specs.Seen.{sight}
use Rattle.filled_tables.specs.Filled.{emission_sight}
use Rattle.emitted_values.proofs.laws.tables_give_trees.Goals as goal

pub returns : goal.returns
returns c = λ s filled sound e fs.
    c.trees_become_the_same.ensures (sight s) (emission_sight s)
    (c.filled_tables_give_expressions.ensures s filled sound) e fs
