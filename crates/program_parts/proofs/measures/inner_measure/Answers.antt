use Rattle.std.proofs.Common.{◌+◌, List, drop, subst}
use Rattle.std.proofs.lemmas.List.{drop_all}
use Rattle.foundation.proofs.Lists.{next_item}
use Rattle.bicep_meaning.specs.Instances.{module_of}
use Rattle.bicep_symbols.specs.declared.entry.Entry.{Entry}
use Rattle.measured_trees.specs.Measures.{Begins}
use Rattle.program_parts.specs.Measures.{by_file, inner_of}
use Rattle.program_parts.proofs.measures.inner_measure.Goals as goal

pub loop-entry-init : goal.loop-entry-init
loop-entry-init c = λ x h. c.nothing-all.ensures.begins (inner_of x c.args.entries.now)

pub loop-entry-preserved : goal.loop-entry-preserved
loop-entry-preserved c = λ x h.
    let es = c.args.entries.now in
    let i = c.loop-entry.entry-index in
    let e = c.entry-item.result in
    c.with-all.ensures.begins (by_file x (module_of e.kind)) (inner_of x (drop (i + 1) es)) (inner_of x es)
    (c.module_measure.ensures x h)
    (subst (λ (xs : List Entry). Begins c.loop-entry.all (inner_of x xs) (inner_of x es))
    (next_item es i e c.loop-entry-test.true c.entry-item.is) (c.loop-entry.invariant x h))

pub returns : goal.returns
returns c = λ x h.
    let es = c.args.entries.now in
    c.ended.ensures (inner_of x es)
    (subst (λ (xs : List Entry). Begins c.loop-entry.all (inner_of x xs) (inner_of x es))
    (drop_all c.loop-entry.entry-index es c.loop-entry-test.false) (c.loop-entry.invariant x h))
