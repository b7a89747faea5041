use Rattle.std.proofs.Common.{subst}
use Rattle.std.proofs.lemmas.Map.Iter.{rest_more, rest_all}
use Rattle.std.specs.Map.Iter.{deref}
use Rattle.measured_trees.specs.Measures.{IsOf, Begins}
use Rattle.filled_tables.specs.Seen.{file_in, files_in}
use Rattle.emitted_dependencies.specs.Elements.{elements_extremes, put_extremes, put_among}
use Rattle.emitted_dependencies.proofs.ChosenLemmas.{dependencies_are}
use Rattle.emitted_dependencies.proofs.LoopLemmas.{first_measured, none_measured}
use Rattle.emitted_dependencies.proofs.measured.measured_dependencies.Goals as goal

pub loop-number-preserved : goal.loop-number-preserved
loop-number-preserved c =
    let f = file_in c.args.table.now in
    let files = files_in c.args.table.now in
    let z = c.args.form in
    let left = c.loop-number.number-iterator in
    let rest = c.next.new.self in
    let n = c.in-Some.number.now in
    let whole = elements_extremes files f z (put_among f c.args.mentioned.now.keys) in
    c.with-all.ensures.begins (put_extremes files f z n) (elements_extremes files f z (put_among f rest)) whole
    c.measured_put.ensures
    (subst (λ x. Begins c.loop-number.all x whole)
    (first_measured files f z left rest n
    (rest_more deref left rest c.next.result c.in-Some.number c.in-Some.is c.next.ensures.steps))
    c.loop-number.invariant)

pub returns : goal.returns
returns c = λ k same.
    let f = file_in c.args.table.now in
    let files = files_in c.args.table.now in
    let z = c.args.form in
    let left = c.loop-number.number-iterator in
    let numbers = c.args.mentioned.now.keys in
    let whole = elements_extremes files f z (put_among f numbers) in
    subst (λ ns. IsOf (elements_extremes files f z ns) c.ended.result)
    (dependencies_are f numbers k c.into_iter-number-iterator.ensures.into_iter_gives.4 same)
    (c.ended.ensures whole
    (subst (λ x. Begins c.loop-number.all x whole)
    (none_measured files f z left
    (rest_all deref left c.next.new.self c.next.result c.in-None.is c.next.ensures.steps)) c.loop-number.invariant))
