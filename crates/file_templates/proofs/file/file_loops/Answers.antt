use Rattle.file_templates.specs.Faults.{IsBatchFault}
use Rattle.file_templates.specs.Texts.{text_of}
use Rattle.bicep_tree.specs.View as view
use Rattle.bicep_tree.specs.declared.declaration.Statement.{Statement}
use Rattle.std.proofs.Common.{List, subst}
use Rattle.symbol_decorators.specs.Limits.{IsFault}
use Rattle.file_templates.proofs.FaultLemmas.{of_batch, of_memory}
use Rattle.file_templates.proofs.TextLemmas.{has_loops}
use Rattle.file_templates.proofs.file.file_loops.Goals as goal

pub returns-in-Ok-clause-loops : goal.returns-in-Ok-clause-loops
returns-in-Ok-clause-loops c =
    has_loops c.args.source.now c.as_slice.result.now c.as_slice.ensures.value c.args.file.now c.in-Ok.batches.items
    c.as_slice-in-Ok.result.now c.as_slice-in-Ok.ensures.value c.in-Ok.ensures.batches c.in-Ok.ensures.small
    c.order_with.result c.order_with.ensures.batches

pub returns-in-Ok-clause-fault : goal.returns-in-Ok-clause-fault
returns-in-Ok-clause-fault c =
    of_memory (IsBatchFault (text_of c.args.source.now)) tt c.order_with.result c.order_with.ensures.fault

pub returns-in-Err-clause-fault : goal.returns-in-Err-clause-fault
returns-in-Err-clause-fault c =
    of_batch (text_of c.args.source.now) c.in-Err.fault c.batch_fault.result c.batch_fault.ensures
    (subst (λ (l : List Statement). IsFault (view.file_of l) c.in-Err.fault) c.as_slice.ensures.value
    c.in-Err.ensures.fault)
