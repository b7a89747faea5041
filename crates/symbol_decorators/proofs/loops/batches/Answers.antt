use Rattle.std.proofs.Common.{map, ap, ◌∙◌, subst}
use Rattle.std.specs.Prelude.{IfErr}
use Rattle.bicep_tree.specs.View as view
use Rattle.symbol_decorators.specs.Decorators.{decorators_of}
use Rattle.symbol_decorators.specs.Limits.{IsFaultOf}
use Rattle.symbol_decorators.specs.View.{decorators_at}
use Rattle.symbol_decorators.proofs.BatchLemmas.{all_of, none_large}
use Rattle.symbol_decorators.proofs.loops.batches.Goals as goal

pub returns-clause-batches : goal.returns-clause-batches
returns-clause-batches c =
    all_of (map decorators_at c.as_slice.result.now) (decorators_of (view.file_of c.args.file.now))
    (ap (map decorators_at) c.as_slice.ensures.value ∙ c.in_ok-symbols.ensures) c.batches_of.result
    c.batches_of.ensures.batches

pub returns-clause-small : goal.returns-clause-small
returns-clause-small c =
    none_large (map decorators_at c.as_slice.result.now) (decorators_of (view.file_of c.args.file.now))
    (ap (map decorators_at) c.as_slice.ensures.value ∙ c.in_ok-symbols.ensures) c.batches_of.result
    c.batches_of.ensures.batches

pub returns-clause-fault : goal.returns-clause-fault
returns-clause-fault c =
    subst (λ xs. IfErr c.batches_of.result (IsFaultOf xs))
    (ap (map decorators_at) c.as_slice.ensures.value ∙ c.in_ok-symbols.ensures) c.batches_of.ensures.fault
