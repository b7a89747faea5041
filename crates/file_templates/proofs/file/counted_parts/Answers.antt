use Rattle.std.proofs.Common.{inl, inr, refl, sym, subst}
use Rattle.file_templates.specs.Faults.{IsCountFault, IsCountOrMemory}
use Rattle.file_templates.specs.Texts.{text_of}
use Rattle.file_templates.proofs.FaultLemmas.{of_memory}
use Rattle.file_templates.proofs.TextLemmas.{counted}
use Rattle.file_templates.proofs.file.counted_parts.Goals as goal

pub returns-in-Some-clause-fault : goal.returns-in-Some-clause-fault
returns-in-Some-clause-fault c =
    inr (subst (IsCountFault c.args.table.now) (sym c.count_fault.ensures) (sym c.in-Some.ensures))

pub returns-in-None-clause-parts : goal.returns-in-None-clause-parts
returns-in-None-clause-parts c =
    counted c.args.form (text_of c.args.source.now) c.args.table.now (sym c.in-None.ensures) c.parts_of.result
    c.parts_of.ensures.parts

pub returns-in-None-clause-fault : goal.returns-in-None-clause-fault
returns-in-None-clause-fault c =
    of_memory (IsCountOrMemory c.args.table.now) (inl refl) c.parts_of.result c.parts_of.ensures.fault
