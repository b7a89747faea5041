use Rattle.std.proofs.Common.{ap, ◌∙◌}
use Rattle.std.proofs.lemmas.Map.Iter.{rest_more, rest_all}
use Rattle.std.specs.Map.Iter.{deref}
use Rattle.filled_tables.specs.Seen.{file_in, files_in}
use Rattle.emitted_dependencies.specs.Elements.{elements, put_among}
use Rattle.emitted_dependencies.proofs.ChosenLemmas.{dependencies_are}
use Rattle.emitted_dependencies.proofs.LoopLemmas.{one_more, none_left}
use Rattle.emitted_dependencies.proofs.lists.depends_on.Goals as goal

pub loop-number-preserved : goal.loop-number-preserved
loop-number-preserved c =
    let f = file_in c.args.table.now in
    let files = files_in c.args.table.now in
    let left = c.loop-number.number-iterator in
    one_more files f c.args.form c.loop-number.elements c.in-Ok.more
    (elements files f c.args.form (put_among f c.args.mentioned.now.keys)) left c.next.new.self c.in-Some.number.now
    (rest_more deref left c.next.new.self c.next.result c.in-Some.number c.in-Some.is c.next.ensures.steps)
    c.in-Ok.ensures c.loop-number.invariant

pub returns : goal.returns
returns c = λ k same.
    let f = file_in c.args.table.now in
    let files = files_in c.args.table.now in
    let left = c.loop-number.number-iterator in
    let numbers = c.args.mentioned.now.keys in
    none_left files f c.args.form c.loop-number.elements (elements files f c.args.form (put_among f numbers)) left
    (rest_all deref left c.next.new.self c.next.result c.in-None.is c.next.ensures.steps) c.loop-number.invariant
    ∙ ap (elements files f c.args.form)
    (dependencies_are f numbers k c.into_iter-number-iterator.ensures.into_iter_gives.4 same)
