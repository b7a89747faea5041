use Rattle.source_templates.specs.Built.{templates_of}
use Rattle.file_templates.proofs.MadeLemmas.{all_few, all_of_each, all_kept, all_noted}
use Rattle.file_templates.proofs.file.made.Goals as goal

pub template-requires-clause-listed : goal.template-requires-clause-listed
template-requires-clause-listed c = c.requires.fits.listed

pub template-requires-clause-built : goal.template-requires-clause-built
template-requires-clause-built c = record {
  each = λ n. record { fits = c.requires.fits.fits n; has_template = c.requires.given.each n };
  all = c.requires.given.all;
}

pub returns-clause-text : goal.returns-clause-text
returns-clause-text c =
    all_of_each c.args.form c.templates_have_the_parts_of_the_file.ensures c.templates_are_of_their_texts.ensures
    c.symbols_have_the_same_numbers.ensures c.nested_templates_are_given.ensures
    c.templates_have_the_existing_resources_of_texts.ensures c.args.table.now c.args.rules.now
    (templates_of c.args.templates.items) c.requires.ready c.requires.fits.within c.template.result
    c.template.ensures.template

pub returns-clause-keeps : goal.returns-clause-keeps
returns-clause-keeps c =
    all_kept c.args.form c.templates_keep_the_rules.ensures c.args.table.now c.args.rules.now
    (templates_of c.args.templates.items) c.requires.ready c.requires.fits.listed.symbols c.template.result
    c.template.ensures.template

pub returns-clause-metadata : goal.returns-clause-metadata
returns-clause-metadata c =
    all_noted c.args.form c.templates_have_the_metadata_of_texts.ensures c.args.table.now c.args.rules.now
    (templates_of c.args.templates.items) c.args.metadata.now c.as_slice.result.now c.as_slice-2.result.now
    c.as_slice.ensures.value c.as_slice-2.ensures.value c.template.result c.template.ensures.template
    c.template.ensures.metadata

pub returns-clause-few : goal.returns-clause-few
returns-clause-few c =
    all_few c.args.form c.templates_have_few_parts.ensures c.args.table.now c.args.rules.now
    (templates_of c.args.templates.items) c.template.result c.template.ensures.template
