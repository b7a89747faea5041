use Rattle.bicep_resolved.specs.View.{source_of}
use Rattle.emitted_expressions.specs.Sight.{frames_of}
use Rattle.declared_table.specs.Seen.{sight, file_in, files_in}
use Rattle.table_expressions.proofs.MeaningLemmas.{means, emitted_whole}
use Rattle.table_expressions.proofs.expressions.expression.Goals as goal

pub returns-clause-emitted : goal.returns-clause-emitted
returns-clause-emitted c =
    let s = c.args.table.now in
    emitted_whole (file_in s) (files_in s) c.requires.sound (source_of c.args.e.now) (frames_of c.args.turns.now)
    (sight s) c.requires.whole c.emitted.result c.emitted.ensures

pub returns-clause-meaning : goal.returns-clause-meaning
returns-clause-meaning c =
    let s = c.args.table.now in
    let e = source_of c.args.e.now in
    let fs = frames_of c.args.turns.now in
    means (file_in s) (files_in s) c.requires.sound e fs c.emitted.result
    (emitted_whole (file_in s) (files_in s) c.requires.sound e fs (sight s) c.requires.whole c.emitted.result
    c.emitted.ensures)
