use Rattle.std.proofs.Common.{refl}
use Rattle.file_templates.specs.Faults.{IsMemoryFault}
use Rattle.file_templates.specs.Parts.{AreRuledParts}
use Rattle.file_templates.specs.Texts.{text_of}
use Rattle.file_templates.specs.declared.fault.EmitFault.TheVariants as fault
use Rattle.file_templates.proofs.FaultLemmas.{refused, no_value}
use Rattle.file_templates.proofs.TextLemmas.{with_metadata}
use Rattle.file_templates.proofs.file.ruled_parts.Goals as goal

pub returns-in-Ok-clause-parts : goal.returns-in-Ok-clause-parts
returns-in-Ok-clause-parts c =
    with_metadata c.args.form (text_of c.args.source.now) c.args.table.now c.args.rules.items c.in-Ok.metadata
    c.in-Ok.ensures c.mentioned_parts.result c.mentioned_parts.ensures.parts

pub returns-in-Err-clause-parts : goal.returns-in-Err-clause-parts
returns-in-Err-clause-parts c =
    no_value (AreRuledParts c.args.form (text_of c.args.source.now) c.args.table.now c.args.rules.items)
    c.refuse.result fault.OutOfMemory c.refuse.ensures

pub returns-in-Err-clause-fault : goal.returns-in-Err-clause-fault
returns-in-Err-clause-fault c = refused IsMemoryFault c.refuse.result fault.OutOfMemory c.refuse.ensures refl
