use Rattle.bicep_declared.specs.View.{body_tree}
use Rattle.bicep_meaning.specs.Instances.{resource_kind}
use Rattle.emitted_modules.specs.Metadata.{metadata_at}
use Rattle.emitted_modules.specs.Seen.{file_in}
use Rattle.file_resources.specs.Built.{needs_of}
use Rattle.file_resources.proofs.MadeLemmas.{resource_made, metadata_made}
use Rattle.file_resources.proofs.parts.resource_of.Goals as goal

pub returns-in-Ok-clause-resource : goal.returns-in-Ok-clause-resource
returns-in-Ok-clause-resource c =
    resource_made c.args.form c.args.table.now c.args.number (body_tree c.args.body.now) c.symbol_of-symbol.result.now
    c.in-Ok.needs (metadata_at c.args.metadata.now c.args.number) c.symbol_of-symbol.ensures c.in-Ok.ensures
    c.resource.result c.resource.ensures.head c.resource.ensures.body c.resource.ensures.childless

pub returns-in-Ok-clause-metadata : goal.returns-in-Ok-clause-metadata
returns-in-Ok-clause-metadata c =
    let s = c.args.table.now in
    let n = c.args.number in
    let m = metadata_at c.args.metadata.now n in
    metadata_made c.args.form s n (body_tree c.args.body.now) c.symbol_of-symbol.result.now c.in-Ok.needs m
    (needs_of c.args.form s n m).depends_on (resource_kind (file_in s) n) c.in-Ok.ensures c.resource.result
    c.resource.ensures.head
