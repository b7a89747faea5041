use Rattle.measured_trees.specs.Measures.{Begins}
use Rattle.filled_tables.specs.Seen.{file_in, files_in}
use Rattle.emitted_dependencies.specs.Elements.{elements_extremes, put_among}
use Rattle.emitted_dependencies.proofs.measured.measured_dependencies.Given as goal

-- what was measured so far, and what is left
abbrev pub invariant-loop-number : goal.invariant-loop-number
invariant-loop-number l =
    let f = file_in l.table in
    let fs = files_in l.table in
    Begins l.all (elements_extremes fs f l.form (put_among f l.number-iterator))
    (elements_extremes fs f l.form (put_among f l.mentioned.keys))
