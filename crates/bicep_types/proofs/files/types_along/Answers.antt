use Rattle.std.proofs.Common.{List, map}
use Rattle.std.specs.Prelude.{◌≡◌, IfOk}
use Rattle.bicep_signatures.specs.declared.value_type.ValueType.{ValueType}
use Rattle.bicep_typing.specs.Names.{listed}
use Rattle.resolved_program.specs.View.{file_view}
use Rattle.bicep_types.specs.Program.{IsSettledBy}
use Rattle.bicep_types.proofs.FileLemmas.{settled_along, found_along, on_ok}
use Rattle.bicep_types.proofs.files.types_along.Goals as goal

pub returns-clause-types : goal.returns-clause-types
returns-clause-types c =
    found_along (map listed c.args.outputs.now) c.args.file.now c.args.order.now c.requires.declared c.requires.order
    c.as_slice.result.now (λ (us : List ValueType). IfOk c.symbol_types.result (λ ts. ts.items ≡ us))
    c.as_slice.ensures.value c.symbol_types.ensures

pub returns-clause-settled : goal.returns-clause-settled
returns-clause-settled c =
    on_ok (IsSettledBy (map listed c.args.outputs.now) (file_view c.args.file.now)) c.symbol_types.result
    (settled_along (map listed c.args.outputs.now) c.args.file.now c.args.order.now c.requires.declared
    c.requires.order)
