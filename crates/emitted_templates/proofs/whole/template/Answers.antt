use Rattle.file_resources.specs.Built.{templates_of}
use Rattle.emitted_templates.proofs.MetadataLemmas.{is_noted}
use Rattle.emitted_templates.proofs.TemplateLemmas.{is_template}
use Rattle.emitted_templates.proofs.whole.template.Goals as goal

pub returns-in-Ok-lists-clause-template : goal.returns-in-Ok-lists-clause-template
returns-in-Ok-lists-clause-template c =
    is_template c.args.form c.args.table.now c.args.rules.now (templates_of c.args.templates.items)
    c.in-Ok-lists.lists c.in-Ok.resources c.in-Ok-lists.ensures.lists c.in-Ok.ensures.built c.made.result c.made.ensures

pub returns-in-Ok-lists-clause-metadata : goal.returns-in-Ok-lists-clause-metadata
returns-in-Ok-lists-clause-metadata c =
    is_noted c.args.form c.args.table.now c.args.metadata.now c.args.output_metadata.now c.in-Ok-lists.lists
    c.in-Ok.resources
    c.in-Ok-lists.ensures.metadata c.in-Ok.ensures.metadata c.made.result c.made.ensures
