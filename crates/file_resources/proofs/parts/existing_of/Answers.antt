use Rattle.bicep_declared.specs.View.{body_tree}
use Rattle.emitted_modules.specs.Metadata.{metadata_at}
use Rattle.file_resources.proofs.MadeLemmas.{existing_made, existing_noted}
use Rattle.file_resources.proofs.parts.existing_of.Goals as goal

pub returns-in-Ok-clause-resource : goal.returns-in-Ok-clause-resource
returns-in-Ok-clause-resource c =
    existing_made c.args.form c.args.table.now c.args.number (body_tree c.args.body.now)
    c.symbol_of-symbol.result.now c.in-Ok.needs (metadata_at c.args.metadata.now c.args.number)
    c.symbol_of-symbol.ensures c.in-Ok.ensures c.existing.result c.existing.ensures.head c.existing.ensures.body
    c.existing.ensures.childless

pub returns-in-Ok-clause-metadata : goal.returns-in-Ok-clause-metadata
returns-in-Ok-clause-metadata c =
    existing_noted c.args.form c.args.table.now c.args.number (body_tree c.args.body.now)
    c.symbol_of-symbol.result.now c.in-Ok.needs (metadata_at c.args.metadata.now c.args.number) c.in-Ok.ensures
    c.existing.result c.existing.ensures.head
