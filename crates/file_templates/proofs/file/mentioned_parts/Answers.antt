use Rattle.std.proofs.Common.{refl}
use Rattle.file_templates.specs.Faults.{IsMemoryFault}
use Rattle.file_templates.specs.Parts.{AreMentionedParts}
use Rattle.file_templates.specs.declared.fault.EmitFault.TheVariants as fault
use Rattle.file_templates.proofs.FaultLemmas.{refused, no_value}
use Rattle.file_templates.proofs.TextLemmas.{of_file, mentions_in, with_mentions}
use Rattle.file_templates.proofs.file.mentioned_parts.Goals as goal

pub measured_parts-requires-clause-table : goal.measured_parts-requires-clause-table
measured_parts-requires-clause-table c =
    of_file c.args.file.now c.args.table.now c.requires.table.0 c.requires.table.1

pub measured_parts-requires-clause-mentioned : goal.measured_parts-requires-clause-mentioned
measured_parts-requires-clause-mentioned c =
    mentions_in c.args.file.now c.args.table.now c.requires.table.0 c.requires.table.1 c.in-Ok.mentioned c.in-Ok.ensures

pub returns-in-Ok-clause-parts : goal.returns-in-Ok-clause-parts
returns-in-Ok-clause-parts c =
    let s = c.args.table.now in
    with_mentions c.args.form s c.args.rules.items c.args.metadata c.in-Ok.mentioned.items
    (mentions_in c.args.file.now s c.requires.table.0 c.requires.table.1 c.in-Ok.mentioned c.in-Ok.ensures)
    c.measured_parts.result c.measured_parts.ensures.parts

pub returns-in-Err-clause-parts : goal.returns-in-Err-clause-parts
returns-in-Err-clause-parts c =
    no_value (AreMentionedParts c.args.form c.args.table.now c.args.rules.items c.args.metadata) c.refuse.result
    fault.OutOfMemory
    c.refuse.ensures

pub returns-in-Err-clause-fault : goal.returns-in-Err-clause-fault
returns-in-Err-clause-fault c = refused IsMemoryFault c.refuse.result fault.OutOfMemory c.refuse.ensures refl
