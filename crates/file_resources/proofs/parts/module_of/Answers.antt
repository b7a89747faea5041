use Rattle.template_tree.specs.View.{template_tree}
use Rattle.bicep_declared.specs.View.{body_tree}
use Rattle.bicep_meaning.specs.Instances.{module_kind}
use Rattle.emitted_modules.specs.Metadata.{metadata_at}
use Rattle.file_resources.specs.Built.{needs_of}
use Rattle.file_resources.proofs.MadeLemmas.{module_made, metadata_made}
use Rattle.file_resources.proofs.parts.module_of.Goals as goal

pub returns-in-Ok-clause-resource : goal.returns-in-Ok-clause-resource
returns-in-Ok-clause-resource c =
    module_made c.args.form c.args.table.now c.args.number (body_tree c.args.body.now) (template_tree c.args.template)
    c.symbol_of-symbol.result.now c.in-Ok.needs (metadata_at c.args.metadata.now c.args.number)
    c.symbol_of-symbol.ensures c.in-Ok.ensures c.module.result c.module.ensures.head c.module.ensures.body
    c.module.ensures.childless

pub returns-in-Ok-clause-metadata : goal.returns-in-Ok-clause-metadata
returns-in-Ok-clause-metadata c =
    let s = c.args.table.now in
    let n = c.args.number in
    let m = metadata_at c.args.metadata.now n in
    metadata_made c.args.form s n (body_tree c.args.body.now) c.symbol_of-symbol.result.now c.in-Ok.needs m
    (needs_of c.args.form s n m).depends_on module_kind c.in-Ok.ensures c.module.result c.module.ensures.head
