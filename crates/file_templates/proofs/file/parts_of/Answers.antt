use Rattle.file_templates.specs.Texts.{text_of}
use Rattle.file_templates.proofs.TextLemmas.{rules_in, all_parts}
use Rattle.file_templates.proofs.file.parts_of.Goals as goal

pub ruled_parts-requires-clause-table : goal.ruled_parts-requires-clause-table
ruled_parts-requires-clause-table c = (text_of c.args.source.now, c.requires.table)

pub returns-in-Ok-clause-parts : goal.returns-in-Ok-clause-parts
returns-in-Ok-clause-parts c =
    let t = text_of c.args.source.now in
    let s = c.args.table.now in
    let rules = rules_in c.args.file.now s t c.requires.table c.in-Ok.rules c.in-Ok.ensures in
    all_parts c.args.form t s c.in-Ok.rules.items rules
    (c.parameters_are_there.ensures t s c.in-Ok.rules.items c.requires.table.1.kinds rules) c.ruled_parts.result
    c.ruled_parts.ensures.parts
