use Rattle.std.proofs.Common.{List, sym, subst}
use Rattle.program_parts.specs.FileParts.{FileParts}
use Rattle.program_parts.specs.Parts.{ArePartsOfAll}
use Rattle.bicep_emit.specs.Faults.{IsEmissionFault, IsPartsFault, IsWholeAndWithin, IsWholeProgram}
use Rattle.bicep_emit.proofs.FileLemmas.{file_fault, of_parts, parts_fault}
use Rattle.bicep_emit.proofs.RefusedLemmas.{other_fault, other_value}
use Rattle.bicep_emit.proofs.programs.ordered.Goals as goal

pub limited-requires : goal.limited-requires
limited-requires c =
    let z = c.args.form in
    let ss = c.args.sources.now in
    let rs = c.args.files.now in
    let are =
    subst (λ (ps : List FileParts). ArePartsOfAll z ss rs ps) (sym c.as_slice.ensures.value) c.in-Ok.ensures.parts in
    (z, (ss, (rs, (c.requires.read, are))))

pub returns-in-Ok-clause-whole : goal.returns-in-Ok-clause-whole
returns-in-Ok-clause-whole c =
    let ss = c.args.sources.now in
    let rs = c.args.files.now in
    let ps = c.as_slice.result.now in
    other_value (IsWholeAndWithin ps) (IsWholeProgram c.args.form ss rs)
    (of_parts c.args.form ss rs ps c.requires.read
    (subst (λ (qs : List FileParts). ArePartsOfAll c.args.form ss rs qs) (sym c.as_slice.ensures.value)
    c.in-Ok.ensures.parts))
    c.limited.result c.limited.ensures.whole

pub returns-in-Ok-clause-fault : goal.returns-in-Ok-clause-fault
returns-in-Ok-clause-fault c =
    let ss = c.args.sources.now in
    let rs = c.args.files.now in
    let ps = c.as_slice.result.now in
    other_fault (IsPartsFault ps) (IsEmissionFault c.args.form ss rs)
    (parts_fault c.args.form ss rs ps
    (subst (λ (qs : List FileParts). ArePartsOfAll c.args.form ss rs qs) (sym c.as_slice.ensures.value)
    c.in-Ok.ensures.parts))
    c.limited.result c.limited.ensures.fault

pub returns-in-Err-clause-fault : goal.returns-in-Err-clause-fault
returns-in-Err-clause-fault c =
    file_fault c.args.form c.args.sources.now c.args.files.now c.in-Err.fault c.in-Err.ensures.fault
