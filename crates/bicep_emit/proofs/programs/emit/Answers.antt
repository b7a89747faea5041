use Rattle.std.proofs.Common.{List, sym, subst}
use Rattle.std.specs.Prelude.{IfErr, IfOk}
use Rattle.bicep_program.specs.declared.file.SourceFile.{SourceFile as Text}
use Rattle.resolved_program.specs.declared.resolved.ResolvedFile.{ResolvedFile}
use Rattle.program_parts.specs.FileOrder.{FileOrder}
use Rattle.program_parts.specs.Programs.{IsRead}
use Rattle.program_parts.specs.Parts.{AreOrdersOfAll}
use Rattle.bicep_emit.specs.Faults.{IsEmissionFault, IsWholeProgram}
use Rattle.bicep_emit.specs.Programs.{IsEmission}
use Rattle.bicep_emit.proofs.FileLemmas.{file_fault, is_emission, is_read}
use Rattle.bicep_emit.proofs.RefusedLemmas.{other_value}
use Rattle.bicep_emit.proofs.programs.emit.Goals as goal

pub file_orders-requires : goal.file_orders-requires
file_orders-requires c =
    subst (λ (ss : List Text). IsRead ss c.as_slice-files.result.now) (sym c.as_slice-sources.ensures.value)
    (subst (λ (rs : List ResolvedFile). IsRead c.args.program.now.files.items rs)
    (sym c.as_slice-files.ensures.value)
    (is_read c.args.program.now c.args.checked.now c.requires.loaded c.requires.checked c.requires.none))

pub ordered-requires-clause-read : goal.ordered-requires-clause-read
ordered-requires-clause-read c =
    subst (λ (ss : List Text). IsRead ss c.as_slice-files.result.now) (sym c.as_slice-sources.ensures.value)
    (subst (λ (rs : List ResolvedFile). IsRead c.args.program.now.files.items rs)
    (sym c.as_slice-files.ensures.value)
    (is_read c.args.program.now c.args.checked.now c.requires.loaded c.requires.checked c.requires.none))

pub ordered-requires-clause-orders : goal.ordered-requires-clause-orders
ordered-requires-clause-orders c =
    subst (λ (os : List FileOrder). AreOrdersOfAll c.as_slice-sources.result.now c.as_slice-files.result.now os)
    (sym c.as_slice.ensures.value) c.in-Ok.ensures.orders

pub returns-in-Ok-clause-emitted : goal.returns-in-Ok-clause-emitted
returns-in-Ok-clause-emitted c =
    let p = c.args.program.now in
    let d = c.args.checked.now in
    other_value (IsWholeProgram c.args.form p.files.items d.resolved.files.items) (IsEmission c.args.form p d)
    (is_emission c.args.form p d c.whole_templates_are_emitted.ensures) c.ordered.result
    (subst (λ (ss : List Text). IfOk c.ordered.result (IsWholeProgram c.args.form ss d.resolved.files.items))
    c.as_slice-sources.ensures.value
    (subst (λ (rs : List ResolvedFile). IfOk c.ordered.result
    (IsWholeProgram c.args.form c.as_slice-sources.result.now rs))
    c.as_slice-files.ensures.value c.ordered.ensures.whole))

pub returns-in-Ok-clause-fault : goal.returns-in-Ok-clause-fault
returns-in-Ok-clause-fault c =
    subst (λ (ss : List Text). IfErr c.ordered.result
    (IsEmissionFault c.args.form ss c.args.checked.now.resolved.files.items))
    c.as_slice-sources.ensures.value
    (subst (λ (rs : List ResolvedFile). IfErr c.ordered.result
    (IsEmissionFault c.args.form c.as_slice-sources.result.now rs))
    c.as_slice-files.ensures.value c.ordered.ensures.fault)

pub returns-in-Err-clause-fault : goal.returns-in-Err-clause-fault
returns-in-Err-clause-fault c =
    subst (λ (ss : List Text). IsEmissionFault c.args.form ss c.args.checked.now.resolved.files.items c.in-Err.fault)
    c.as_slice-sources.ensures.value
    (subst (λ (rs : List ResolvedFile). IsEmissionFault c.args.form c.as_slice-sources.result.now rs c.in-Err.fault)
    c.as_slice-files.ensures.value
    (file_fault c.args.form c.as_slice-sources.result.now c.as_slice-files.result.now c.in-Err.fault
    c.in-Err.ensures.fault))
